use Rattle.std.proofs.Common.{◌≡◌, refl, subst, sym}
use Rattle.std.proofs.Common.{true}
use Rattle.word_forms.specs.Forms.{is_fileset_name}
use Rattle.fileset_table.proofs.Written.{entry_there, number_there, original_there}
use Rattle.fileset_table.proofs.writing.put_entry.Goals as goal

pub returns-clause-original : goal.returns-clause-original
returns-clause-original c = original_there _ _ _ c.put_parts.new.out c.put_parts.ensures.parts

pub returns-clause-number : goal.returns-clause-number
returns-clause-number c = number_there _ _ _ c.put_parts.new.out c.put_parts.ensures.parts

pub returns-clause-entry : goal.returns-clause-entry
returns-clause-entry c = entry_there _ _ _ c.put_parts.new.out c.put_parts.ensures.parts c.args.entry.now (subst (λ n. is_fileset_name n ≡ true) (sym c.as_slice.ensures) c.requires.name) c.as_slice.ensures refl refl refl refl
