use Rattle.std.proofs.lemmas.Result.{on_ok_weaker}
use Rattle.directory_faults.proofs.SlotFaults.{five, four_put, put_as, two_put}
use Rattle.directory_faults.proofs.slot.insert_file_faults.Goals as goal

pub returns : goal.returns
returns c =
    on_ok_weaker c.insert_few_rows.result
    (λ few pages frame table number are_files are slot home.
    put_as
    (two_put (c.in_ok-insert_wrong_sizes.ensures pages frame table number are_files home)
    (four_put (c.in_ok-insert_wrong_links.ensures pages frame table number are_files are home) (c.in_ok-insert_wrong_parents.ensures pages frame table number are_files are home)
    (c.in_ok-insert_misplaced.ensures pages frame table number are_files are slot home) (few pages frame table number are_files are slot home)))
    (five pages frame table number c.args.rows.now are home))
    c.insert_few_rows.ensures
