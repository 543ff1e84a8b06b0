-- What the steps of reading a script answer.
use Rattle.std.specs.Prelude.{◌≡◌, ℕ, true, false, Option, Some, None, option_map, unwrap_or, List, [], ◌∷◌, ◌++◌}
use Rattle.command_text.specs.fileset_values.declared.command.Command.{Command}
use Rattle.script_text.specs.declared.fault.LineFault.{LineFault}
use Rattle.script_text.specs.declared.fault.LineFault.TheVariants as line
use Rattle.script_text.specs.declared.reading.Draft.{Draft}
use Rattle.script_text.specs.declared.script.Section.{Section}
use Rattle.script_text.specs.declared.statement.Statement.{Statement}
use Rattle.script_text.specs.declared.statement.Statement.TheVariants.{Opens, Gives}
use Rattle.script_text.specs.Words.{words_of}
use Rattle.script_text.specs.Script.{first_kind, is_skipped, kind_of_line, kinds_of_statement, statement_of, statement_of_line}

-- the sections of a draft
abbrev pub drafted : Option Draft → List Section
drafted None = []
drafted (Some d) = d.done.items ++ record { number = d.number; commands = d.commands.items } ∷ []

-- the sections with one command more in the last of them
abbrev pub with_command : List Section → Command → List Section
with_command [] command = []
with_command (section ∷ []) command = record {
  number = section.number;
  commands = section.commands ++ command ∷ [];
} ∷ []
with_command (section ∷ next ∷ sections) command = section ∷ with_command (next ∷ sections) command

-- the sections with one statement more
abbrev pub with_statement : List Section → Statement → List Section
with_statement sections (Opens n) = sections ++ record { number = n; commands = [] } ∷ []
with_statement sections (Gives command) = with_command sections command

-- the sections with what one line more says
abbrev pub with_line : List Section → List ℕ → List Section
with_line so_far text = unwrap_or
    (option_map (with_statement so_far) (statement_of_line text)) so_far

-- the line has that fault after these sections, unless memory ran out
abbrev pub Refuses : List Section → List ℕ → LineFault → Type 0
Refuses so_far text (line.Kind kind) = kind_of_line so_far text ≡ Some kind
Refuses so_far text line.OutOfMemory = Unit {0}

-- a line says nothing, or a statement, whose faults are then those that the sections so far lead to
abbrev pub Says : List Section → List ℕ → Option Statement → Type 0
Says so_far text None = is_skipped text ≡ true
Says so_far text (Some statement) =
    (is_skipped text ≡ false) × (statement_of (words_of text) ≡ Some statement)
    × (kind_of_line so_far text ≡ first_kind (kinds_of_statement so_far (Some statement)))

-- a statement that the sections cannot take
abbrev pub IsRefused : List Section → Statement → LineFault → Type 0
IsRefused so_far statement (line.Kind kind) = first_kind
    (kinds_of_statement so_far (Some statement)) ≡ Some kind
IsRefused so_far statement line.OutOfMemory = Unit {0}

-- a statement that was added to the sections
abbrev pub IsAdded : List Section → Statement → List Section → Type 0
IsAdded so_far statement next =
    (first_kind (kinds_of_statement so_far (Some statement)) ≡ None)
    × (next ≡ with_statement so_far statement)

-- a good line, and the sections after it
abbrev pub IsTaken : List Section → List ℕ → List Section → Type 0
IsTaken so_far text next = (kind_of_line so_far text ≡ None) × (next ≡ with_line so_far text)
