use Rattle.std.proofs.Common.{refl, drop}
use Rattle.fileset_table.proofs.Written.{numbers_are}
use Rattle.fileset_table.proofs.writing.put_numbers.Goals as goal

pub returns-clause-numbers : goal.returns-clause-numbers
returns-clause-numbers c =
    let numbers = c.args.numbers.now in
    numbers_are numbers.original numbers.number c.home_numbers-first_tag.result.0 c.home_numbers-first_tag.result.1 numbers.files_limit numbers.blocks_limit
    c.address_numbers-quota.result.0 c.address_numbers-quota.result.1 c.address_numbers-quota.result.2 (drop 48 c.args.out.now) c.put_values.new.out c.put_values.ensures.written c.put_values.ensures.fit
    numbers refl refl c.home_numbers-first_tag.ensures refl refl c.address_numbers-quota.ensures
