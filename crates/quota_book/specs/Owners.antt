-- Owners, and what they use who use nothing.
use Rattle.std.specs.Prelude.{Bool}
use Rattle.std.specs.Ordering.{eq_by_cmp}
use Rattle.fileset_model.specs.fileset_values.Orders.{owner_cmp}
use Rattle.fileset_model.specs.fileset_values.declared.command.Owner.{Owner}
use Rattle.fileset_model.specs.declared.fileset.Usage.{Usage}

-- what owners use who use nothing
abbrev pub nothing : Usage
nothing = record { files = 0; blocks = 0 }

-- one owner is the other
abbrev pub same_owner : Owner → Owner → Bool
same_owner a b = eq_by_cmp owner_cmp a b
