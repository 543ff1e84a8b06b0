-- What was read of an input whose reading stopped before its end, and what was written of a text.
use Rattle.std.specs.Prelude.{◌≡◌, ℕ, ◌≤◌, ◌+◌, Option, List, [], ◌++◌, length}
use Rattle.std.specs.Io.KnownBytes.{Appends}
use Rattle.run_parts.specs.declared.transfer.ReadError.{ReadError}
use Rattle.run_parts.specs.declared.transfer.ReadError.TheVariants.{SourceFault, TooLong, OutOfMemory}

-- too long only if one byte more than the limit was read; no more than that is ever read
abbrev pub StopsAfter : ℕ → ReadError → List ℕ → Type 0
StopsAfter limit SourceFault read = length read ≤ limit
StopsAfter limit TooLong read = length read ≡ limit + 1
StopsAfter limit OutOfMemory read = length read ≤ limit + 1

-- one byte more than a script may have
unfoldable pub IsTooLong : List ℕ → Type 0
IsTooLong read = length read ≡ 33_554_433

-- no more bytes than a script may have
unfoldable pub IsShort : List ℕ → Type 0
IsShort read = length read ≤ 33_554_432

-- at most one byte more than that
unfoldable pub IsNoLonger : List ℕ → Type 0
IsNoLonger read = length read ≤ 33_554_433

-- a text is handed on: known bytes grew by a front of it, and the rest of it waits
pub record HandsOn (old new : Option (List ℕ)) (text waiting : List ℕ) : Type 0 where
  pub front : List ℕ
  pub whole : text ≡ front ++ waiting
  pub grown : Appends old new front

-- known bytes grew by a part of the text, from its front, and not by all of it
pub record AppendsPart (old new : Option (List ℕ)) (text : List ℕ) : Type 0 where
  pub front : List ℕ
  pub rest : List ℕ
  pub whole : text ≡ front ++ rest
  pub some : ¬ rest ≡ []
  pub grown : Appends old new front

-- known bytes grew by a part of the text, from its front
pub record AppendsFront (old new : Option (List ℕ)) (text : List ℕ) : Type 0 where
  pub front : List ℕ
  pub rest : List ℕ
  pub whole : text ≡ front ++ rest
  pub grown : Appends old new front
