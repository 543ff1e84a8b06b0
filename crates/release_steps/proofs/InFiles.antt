-- The file of an entry is one of the domain's, so that steps go on in such.
use Rattle.std.proofs.Common.{Option, Some, None, IsSome, subst}
use Rattle.release_list.specs.domain_base.declared.place.CellAt.{CellAt}
use Rattle.release_list.specs.declared.cursor.Cursor.{Cursor}
use Rattle.release_list.specs.Cursors.{IsAhead, IsOfEntry}
use Rattle.release_list.specs.Steps.{IsWell, Now}
use Rattle.release_steps.specs.Ahead.{GoesOnIn}

pub in_a_file : (now : Now) → IsWell now → (cursor : Option Cursor) → IsAhead now.pages cursor → IsOfEntry now.list.entries cursor → GoesOnIn now cursor
in_a_file now well None ahead on = (tt, tt)
in_a_file now well (Some c) ahead on =
    (ahead, subst (λ (at : CellAt). IsSome (now.files at)) on.2 (well.listed.each on.0 on.1).there)
