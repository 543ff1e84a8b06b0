use Rattle.directory_tables.proofs.rows.ask_bare.Goals as goal

pub ask-requires : goal.ask-requires
ask-requires c = c.new-bare.ensures (record { slot = 1; seq = 1 }) c.requires
