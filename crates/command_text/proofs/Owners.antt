-- Owners of quotas and switches are read back.
use Rattle.std.proofs.Common.{◌≡◌, Bool, true, false, Some, decimal, refl, arith}
use Rattle.word_forms.specs.fileset_values.declared.command.Owner.{Owner}
use Rattle.word_forms.specs.fileset_values.declared.command.Owner.TheVariants.{User, Group, Fileset}
use Rattle.command_text.specs.Texts.{owner_id, owner_kind, switch_text}
use Rattle.word_forms.specs.Forms.{owner_of, switch_of}
use Rattle.word_forms.specs.WellFormed.{IsOwner}
use Rattle.word_forms.proofs.Cuts.{lacks}
use Rattle.word_forms.proofs.NumbersRead.{number_lacks, small_read, within_read}

pub owner_read : (who : Owner) → IsOwner who → owner_of (owner_kind who) (decimal (owner_id who)) ≡ Some who
unfolding owner_of
owner_read (User id) h = rw (small_read id h) refl
owner_read (Group id) h = rw (small_read id h) refl
owner_read Fileset h = rw (within_read 0 0 0 (omega arith) (omega arith) (omega arith)) refl

pub kind_lacks : (who : Owner) → lacks 32 (owner_kind who) ≡ true
kind_lacks (User id) = refl
kind_lacks (Group id) = refl
kind_lacks Fileset = refl

pub id_lacks : (who : Owner) → IsOwner who → lacks 32 (decimal (owner_id who)) ≡ true
id_lacks (User id) h = number_lacks 32 id (omega (arith, h)) (omega arith)
id_lacks (Group id) h = number_lacks 32 id (omega (arith, h)) (omega arith)
id_lacks Fileset h = number_lacks 32 0 (omega arith) (omega arith)

pub switch_read : (on : Bool) → switch_of (switch_text on) ≡ Some on
unfolding switch_of
switch_read true = refl
switch_read false = refl

pub switch_lacks : (on : Bool) → lacks 32 (switch_text on) ≡ true
switch_lacks true = refl
switch_lacks false = refl
