use Rattle.std.proofs.Common.{refl}
use Rattle.fileset_table.proofs.Written.{parts_are}
use Rattle.fileset_table.proofs.writing.put_parts.Goals as goal

pub returns-clause-parts : goal.returns-clause-parts
returns-clause-parts c =
    parts_are c.args.state c.args.name.now c.put_name.new.out c.put_numbers.new.out _ c.requires.short c.put_name.ensures c.put_numbers.ensures.len refl c.args.numbers.now c.put_numbers.ensures.numbers
