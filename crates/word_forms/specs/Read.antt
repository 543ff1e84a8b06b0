-- What the reading of a word answers.
use Rattle.std.specs.Prelude.{◌≡◌, Option, Some, None, Result, Ok, Err}
use Rattle.word_forms.specs.declared.fault.WordFault.{WordFault}
use Rattle.word_forms.specs.declared.fault.WordFault.TheVariants as word

-- a word that was not read has no meaning, unless memory ran out
abbrev pub Fails : {A : Type 0} → WordFault → Option A → Type 0
Fails word.Malformed meaning = meaning ≡ None
Fails word.OutOfMemory meaning = Unit {0}

-- what was read is the meaning
abbrev pub Gives : {A : Type 0} → Result A WordFault → Option A → Type 0
Gives (Ok x) meaning = meaning ≡ Some x
Gives (Err fault) meaning = Fails fault meaning
