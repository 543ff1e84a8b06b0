-- What is always so of a domain.
use Rattle.std.specs.Prelude.{IsTrue}
use Rattle.std.specs.FinMap.{contains_key}
use Rattle.legal_histories.specs.Valid.{AreValid}
use Rattle.legal_histories.specs.State.{State}

-- its filesets are valid, and the log stands on a member
pub record IsValid (s : State) : Type 0 where
  pub filesets : AreValid s.filesets
  pub log_on_member : IsTrue (contains_key s.members s.log_volume)
