-- Which words of a command line are a form.
use Rattle.std.specs.Prelude.{ℕ, suc, ◌≡◌, ◌^◌, ◌-◌, Bool, true, false, ◌&&◌, not, if◌then◌else◌, nat_le, ◌==◌, length, slice_index, Option, Some, None, option_and_then, Result, Ok, Err, List, [], ◌∷◌, codes}
use Rattle.std.specs.Char.{is_ascii_digit}
use Rattle.std.specs.List.{list_all}
use Rattle.std.specs.Option.{option_map_or}
use Rattle.std.specs.Str.{bytes_eq}
use Rattle.domain_faults.specs.domain_base.declared.version.Version.{Version}
use Rattle.domain_faults.specs.domain_base.declared.version.Version.TheVariants.{Three, Four}
use Rattle.domain_faults.specs.word_forms.Forms.{number_below}
use Rattle.run_parts.specs.declared.words.Form.{Form}
use Rattle.run_parts.specs.declared.words.Form.TheVariants.{Try, Run, Make, Verify}

-- decimal digits, the first not 0
abbrev pub are_plain_digits : List ℕ → Bool
are_plain_digits word = list_all is_ascii_digit word && not (slice_index word 0 == 48)

-- the number, if a volume may have that many pages
abbrev pub in_range : Option ℕ → Option ℕ
in_range number =
    option_and_then (λ n. if nat_le 64 n && nat_le n 65_536 then Some n else None) number

-- how many pages a word asks for, without leading zeros
abbrev pub asked_pages : List ℕ → Option ℕ
asked_pages word = if are_plain_digits word then in_range (number_below (2 ^ 32) word) else None

-- What is asked for, or how many words of the line stand before the first one that is out of place;
-- that is all of them if one is missing.

-- the words after a whole form, with `count` words before them
abbrev pub form_end : ℕ → Form → List (List ℕ) → Result Form ℕ
form_end count form [] = Ok form
form_end count form (word ∷ words) = Err count

-- the words after `try`: how many pages the volume has
abbrev pub try_form : List (List ℕ) → Result Form ℕ
try_form [] = Err 1
try_form (word ∷ words) =
    option_map_or (λ pages. form_end 2 (Try pages) words) (asked_pages word) (Err 1)

-- the name of an image, with `count` words before it
abbrev pub image_form : ℕ → Form → List (List ℕ) → Result Form ℕ
image_form count form [] = Err count
image_form count form ([] ∷ words) = Err count
image_form count form ((byte ∷ bytes) ∷ words) = form_end (suc count) form words

-- the names of at most `most` more images
abbrev pub more_images : ℕ → ℕ → Form → List (List ℕ) → Result Form ℕ
more_images most count form [] = Ok form
more_images most count form ([] ∷ words) = Err count
more_images most count form ((byte ∷ bytes) ∷ words) =
    if most == 0 then Err count else more_images (most - 1) (suc count) form words

-- the names of one to eight images, with `count` words before them
abbrev pub images_form : ℕ → Form → List (List ℕ) → Result Form ℕ
images_form count form [] = Err count
images_form count form (word ∷ words) = more_images 8 count form (word ∷ words)

-- the name of a script, with `count` words before it, and images
abbrev pub script_form : ℕ → List (List ℕ) → Result Form ℕ
script_form count [] = Err count
script_form count ([] ∷ words) = Err count
script_form count ((byte ∷ bytes) ∷ words) = images_form (suc count) Run words

-- the words after `run`: a script and images; after `-r` they are opened read-only
abbrev pub run_form : List (List ℕ) → Result Form ℕ
run_form [] = Err 1
run_form (word ∷ words) =
    if bytes_eq word (codes "-r") then script_form 2 words else script_form 1 (word ∷ words)

-- an image for a domain of this version, with `count` words before it; after `-o`, one to be
-- overwritten
abbrev pub version_form : ℕ → Version → List (List ℕ) → Result Form ℕ
version_form count version [] = Err count
version_form count version (word ∷ words) =
    if bytes_eq word (codes "-o") then image_form (suc count) (Make version true) words
    else image_form count (Make version false) (word ∷ words)

-- the words after `mkfdmn`: an image, after `-3` for a domain of version 3
abbrev pub make_form : List (List ℕ) → Result Form ℕ
make_form [] = Err 1
make_form (word ∷ words) =
    if bytes_eq word (codes "-3") then version_form 2 Three words
    else version_form 1 Four (word ∷ words)

-- the words after a verb
abbrev pub verb_form : List ℕ → List (List ℕ) → Result Form ℕ
verb_form verb words =
    if bytes_eq verb (codes "try") then try_form words
    else if bytes_eq verb (codes "run") then run_form words
    else if bytes_eq verb (codes "mkfdmn") then make_form words
    else if bytes_eq verb (codes "verify") then images_form 1 Verify words
    else Err 0

-- a whole command line
unfoldable pub form_of : List (List ℕ) → Result Form ℕ
form_of [] = Err 0
form_of (verb ∷ words) = verb_form verb words

-- the volumes that a rack has for a form: those of a domain that is run or verified may be any
abbrev pub FitsForm : List ℕ → Form → Type 0
FitsForm sizes (Try pages) = sizes ≡ pages ∷ []
FitsForm sizes (Make version overwrites) = length sizes ≡ 1
FitsForm sizes other = Unit {0}
