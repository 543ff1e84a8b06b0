use Rattle.image_tables.proofs.fetched.tell_on.Goals as goal

pub tell_brought-requires : goal.tell_brought-requires
tell_brought-requires c = (_, c.in-Ok.ensures.brought)
