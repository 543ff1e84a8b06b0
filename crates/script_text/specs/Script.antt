-- What a script says: its sections with their commands, or its first bad line and what is wrong
-- with it.
use Rattle.std.specs.Prelude.{◌≡◌, ℕ, ◌+◌, ◌-◌, ◌^◌, min, Bool, false, ◌&&◌, ◌||◌, not, ◌==◌, if◌then◌else◌, nat_le, Option, Some, None, is_none, option_map, unwrap_or, Result, Ok, Err, List, [], ◌∷◌, ◌++◌, length, slice_index, codes}
use Rattle.std.specs.List.{list_any, filter_map}
use Rattle.std.specs.Str.{bytes_eq}
use Rattle.std.specs.Str.Lines.{lines}
use Rattle.command_text.specs.fileset_values.declared.command.Command.{Command}
use Rattle.command_text.specs.Commands.{one_word, command_of, row_of, takes, verb_of}
use Rattle.command_text.specs.word_forms.Forms.{◌>>=◌, passing, number_within}
use Rattle.command_text.specs.declared.verb.Verb.{Verb}
use Rattle.script_text.specs.declared.fault.FaultKind.{FaultKind}
use Rattle.script_text.specs.declared.fault.FaultKind.TheVariants as fault
use Rattle.script_text.specs.declared.script.Script.{Script}
use Rattle.script_text.specs.declared.script.Section.{Section}
use Rattle.script_text.specs.declared.script.ScriptFault.{ScriptFault}
use Rattle.script_text.specs.declared.script.ScriptFault.TheVariants.{Bad, OutOfMemory}
use Rattle.script_text.specs.declared.statement.Keyword.{Keyword}
use Rattle.script_text.specs.declared.statement.Keyword.TheVariants as keyword
use Rattle.script_text.specs.declared.statement.Statement.{Statement}
use Rattle.script_text.specs.declared.statement.Statement.TheVariants.{Opens, Gives}
use Rattle.script_text.specs.Words.{is_printable, words_of}

-- ** What a line says

abbrev pub first_word : List (List ℕ) → List ℕ
first_word [] = []
first_word (word ∷ words) = word

-- a first word that begins a section
abbrev pub is_section_word : List ℕ → Bool
is_section_word word = bytes_eq word (codes "client")

-- the commands that scripts may have
abbrev pub verb_in_scripts : List ℕ → Option Verb
verb_in_scripts word = verb_of word >>= λ verb. passing (row_of verb).in_scripts verb

-- the first words that are known
abbrev pub keyword_of : List ℕ → Option Keyword
keyword_of word = if is_section_word word then Some keyword.Client
    else option_map keyword.Command (verb_in_scripts word)

-- whether its line may have `count` words
abbrev pub takes_count : Keyword → ℕ → Bool
takes_count keyword.Client count = count == 2
takes_count (keyword.Command verb) count = takes verb count

-- what the words after the first say; clients have the numbers 1 to 8
abbrev pub statement_after : Keyword → List (List ℕ) → Option Statement
statement_after keyword.Client words = option_map Opens (one_word (number_within 1 8) words)
statement_after (keyword.Command verb) words = option_map Gives (command_of verb words)

-- what the words of a line say
abbrev pub statement_of : List (List ℕ) → Option Statement
statement_of [] = None
statement_of (word ∷ words) = keyword_of word >>= λ k. statement_after k words

-- a line without words, or a comment
abbrev pub is_skipped : List ℕ → Bool
is_skipped line = slice_index line 0 == 35 || length (words_of line) == 0

abbrev pub statement_of_line : List ℕ → Option Statement
statement_of_line line = if is_skipped line then None else statement_of (words_of line)

-- ** What the lines so far say

-- the commands before the next section
abbrev pub commands_at_front : List Statement → List Command
commands_at_front [] = []
commands_at_front (Opens n ∷ statements) = []
commands_at_front (Gives command ∷ statements) = command ∷ commands_at_front statements

-- the sections that the statements open, each with its commands in order
abbrev pub sections_of : List Statement → List Section
sections_of [] = []
sections_of (Opens n ∷ statements) = record {
  number = n;
  commands = commands_at_front statements;
} ∷ sections_of statements
sections_of (Gives command ∷ statements) = sections_of statements

-- the sections that some lines say
abbrev pub sections_in : List (List ℕ) → List Section
sections_in lines_so_far = sections_of (filter_map statement_of_line lines_so_far)

-- ** What is wrong with a line

-- a printable character or a tab
abbrev pub is_script_byte : ℕ → Bool
is_script_byte b = b == 9 || is_printable b

-- a known first word, with another number of words than its form has
abbrev pub has_other_count : List (List ℕ) → Bool
has_other_count words = unwrap_or
    (option_map (λ k. not (takes_count k (length words))) (keyword_of (first_word words))) false

-- a section whose number another one has
abbrev pub is_section_twice : List Section → Option Statement → Bool
is_section_twice so_far (Some (Opens n)) = list_any (λ section. section.number == n) so_far
is_section_twice so_far _ = false

-- the last section has 2,000 commands
abbrev pub is_full : List Section → Bool
is_full [] = false
is_full (section ∷ []) = nat_le 2_000 (length section.commands)
is_full (section ∷ next ∷ sections) = is_full (next ∷ sections)

abbrev pub is_one_too_many : List Section → Option Statement → Bool
is_one_too_many so_far (Some (Gives command)) = is_full so_far
is_one_too_many so_far _ = false

-- the first kind of fault that a line has
abbrev pub first_kind : List (FaultKind × Bool) → Option FaultKind
first_kind [] = None
first_kind (k ∷ kinds) = if k.1 then Some k.0 else first_kind kinds

-- the faults of a statement that comes after these sections
abbrev pub kinds_of_statement : List Section → Option Statement → List (FaultKind × Bool)
kinds_of_statement so_far statement =
    (fault.SectionTwice, is_section_twice so_far statement)
    ∷ (fault.TooManyCommands, is_one_too_many so_far statement) ∷ []

-- each kind of fault, in order, with whether a line with these words has it after these sections
abbrev pub kinds_of_words : List Section → List ℕ → List (List ℕ) → List (FaultKind × Bool)
kinds_of_words so_far line words =
    (fault.OtherByte, list_any (λ b. not (is_script_byte b)) line)
    ∷ (fault.NoSection, length so_far == 0 && not (is_section_word (first_word words)))
    ∷ (fault.UnknownWord, is_none (keyword_of (first_word words)))
    ∷ (fault.WordCount, has_other_count words)
    ∷ (fault.WordForm, is_none (statement_of words))
    ∷ kinds_of_statement so_far (statement_of words)

-- what is wrong with a line after these sections
abbrev pub kind_of_line : List Section → List ℕ → Option FaultKind
kind_of_line so_far line = if is_skipped line then None
    else first_kind (kinds_of_words so_far line (words_of line))

-- the number by which a fault is named
abbrev pub kind_number : FaultKind → ℕ
kind_number fault.OtherByte = 1
kind_number fault.NoSection = 2
kind_number fault.UnknownWord = 3
kind_number fault.OtherSection = 4
kind_number fault.WordCount = 5
kind_number fault.WordForm = 6
kind_number fault.SectionTwice = 7
kind_number fault.TooManyCommands = 8

-- ** What a script says

-- a bad line, counted from 1, and what is wrong with it
pub record BadLine : Type 0 where
  pub line : ℕ
  pub kind : FaultKind

-- the first bad one of the lines after these
abbrev pub first_bad : List (List ℕ) → List (List ℕ) → Option BadLine
first_bad before [] = None
first_bad before (line ∷ more) = unwrap_or
    (option_map (λ kind. Some (record { line = length before + 1; kind = kind }))
    (kind_of_line (sections_in before) line))
    (first_bad (before ++ line ∷ []) more)

-- the script that the text says, or its first bad line
unfoldable pub script_of : List ℕ → Result Script BadLine
script_of text = unwrap_or
    (option_map Err (first_bad [] (lines text)))
    (Ok (record { clients = sections_in (lines text); mover = None }))

-- A fault that a reader reports: that bad line, as far as a number of 32 bits goes. Memory may run
-- out at any script.
abbrev pub Reports : ScriptFault → Result Script BadLine → Type 0
Reports (Bad line kind) meaning =
    (bad : BadLine) × (meaning ≡ Err bad) × (line ≡ min bad.line (2 ^ 32 - 1)) × (kind ≡ bad.kind)
Reports OutOfMemory meaning = Unit {0}
