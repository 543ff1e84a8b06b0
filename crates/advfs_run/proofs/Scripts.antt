-- The commands that scripts give are answered.
use Rattle.std.proofs.Common.{◌≡◌, ℕ, Bool, true, false, cond, Option, Some, None, option_map, unwrap_or, Result, Ok, Err, List, [], ◌∷◌, refl, subst, ◌∙◌}
use Rattle.std.specs.List.{All, cons_option, filter_map}
use Rattle.std.specs.Str.Lines.{lines}
use Rattle.std.proofs.lemmas.Option.{cond_some, option_and_then_some}
use Rattle.std.proofs.lemmas.List.Elements.{All-cons, All-head, All-nil, All-tail}
use Rattle.domain_attaching.specs.fileset_values.declared.command.Command.{Command}
use Rattle.run_parts.specs.command_text.Commands.{command_of, row_of, verb_of}
use Rattle.run_parts.specs.command_text.declared.verb.Verb.{Verb}
use Rattle.domain_attaching.proofs.OfWordForms.ReadForms.{map_some}
use Rattle.run_parts.specs.script_text.declared.script.Script.{Script}
use Rattle.run_parts.specs.script_text.declared.script.Section.{Section}
use Rattle.run_parts.specs.script_text.declared.statement.Keyword.{Keyword}
use Rattle.run_parts.specs.script_text.declared.statement.Keyword.TheVariants as keyword
use Rattle.run_parts.specs.script_text.declared.statement.Statement.{Statement}
use Rattle.run_parts.specs.script_text.declared.statement.Statement.TheVariants.{Opens, Gives}
use Rattle.run_parts.specs.script_text.Script.{BadLine, commands_at_front, first_bad, is_section_word, is_skipped, keyword_of, script_of, sections_in, sections_of, statement_after, statement_of, statement_of_line, verb_in_scripts}
use Rattle.run_parts.specs.script_text.Words.{words_of}
use Rattle.client_commands.specs.name_commands.Ending.{IsServed}
use Rattle.advfs_run.proofs.Commands.{command_served}

-- if it is a command, it is answered
abbrev GivesServed : Statement → Type 0
GivesServed (Opens n) = Unit {0}
GivesServed (Gives command) = IsServed command

-- a word of a command is one that scripts may have
in_scripts : (word : List ℕ) (v : Verb) → keyword_of word ≡ Some (keyword.Command v) → (row_of v).in_scripts ≡ true
in_scripts word v e = at (is_section_word word) e
  where
    is_v : (w : Verb) → keyword.Command w ≡ keyword.Command v → (row_of w).in_scripts ≡ true → (row_of v).in_scripts ≡ true
    is_v w same is = let P : Keyword → Type 0 = mark in subst P same is
      where
        mark : Keyword → Type 0
        mark keyword.Client = Unit {0}
        mark (keyword.Command u) = (row_of u).in_scripts ≡ true

    at : (t : Bool) → cond t (Some keyword.Client) (option_map keyword.Command (verb_in_scripts word)) ≡ Some (keyword.Command v) → (row_of v).in_scripts ≡ true
    at true h = absurd (cc)
    at false h =
        map_some keyword.Command (verb_in_scripts word) (keyword.Command v) ((row_of v).in_scripts ≡ true) h (λ w here same.
        option_and_then_some _ (verb_of word) w here (λ u is last.
        let c = cond_some (row_of u).in_scripts u w last in
        let P : Verb → Type 0 = λ x. (row_of x).in_scripts ≡ true in
        is_v w same (subst P c.1 c.0)))

after : (k : Keyword) (word : List ℕ) (words : List (List ℕ)) (s : Statement) → keyword_of word ≡ Some k → statement_after k words ≡ Some s → GivesServed s
after keyword.Client word words s is e =
    map_some Opens _ s (GivesServed s) e (λ n here same. let P : Statement → Type 0 = GivesServed in subst P same tt)
after (keyword.Command v) word words s is e =
    map_some Gives (command_of v words) s (GivesServed s) e (λ c here same.
    let P : Statement → Type 0 = GivesServed in subst P same (command_served v words c (in_scripts word v is) here))

of_words : (words : List (List ℕ)) (s : Statement) → statement_of words ≡ Some s → GivesServed s
of_words [] s e = absurd (cc)
of_words (word ∷ words) s e = option_and_then_some _ (keyword_of word) s e (λ k is last. after k word words s is last)

of_line : (line : List ℕ) (said : Option Statement) → statement_of_line line ≡ said → (s : Statement) → said ≡ Some s → GivesServed s
of_line line said is s e = at (is_skipped line) (is ∙ e)
  where
    at : (t : Bool) → cond t None (statement_of (words_of line)) ≡ Some s → GivesServed s
    at true h = absurd (cc)
    at false h = of_words (words_of line) s h

of_lines : (texts : List (List ℕ)) → All GivesServed (filter_map statement_of_line texts)
of_lines [] = All-nil GivesServed
of_lines (line ∷ more) = at (statement_of_line line) refl (of_lines more)
  where
    at : (said : Option Statement) → statement_of_line line ≡ said → All GivesServed (filter_map statement_of_line more)
        → All GivesServed (cons_option said (filter_map statement_of_line more))
    at None is are = are
    at (Some s) is are = All-cons GivesServed s (filter_map statement_of_line more) (of_line line (Some s) is s refl) are

at_front : (statements : List Statement) → All GivesServed statements → All IsServed (commands_at_front statements)
at_front [] are = All-nil IsServed
at_front (Opens n ∷ more) are = All-nil IsServed
at_front (Gives command ∷ more) are =
    All-cons IsServed command (commands_at_front more) (All-head GivesServed (Gives command) more are) (at_front more (All-tail GivesServed (Gives command) more are))

-- all commands of the sections
abbrev AreServed : List Section → Type 0
AreServed sections = All (λ section. All IsServed section.commands) sections

in_sections : (statements : List Statement) → All GivesServed statements → AreServed (sections_of statements)
in_sections [] are = All-nil (λ (section : Section). All IsServed section.commands)
in_sections (Opens n ∷ more) are =
    let rest = All-tail GivesServed (Opens n) more are in
    All-cons (λ (section : Section). All IsServed section.commands) (record { number = n; commands = commands_at_front more }) (sections_of more) (at_front more rest) (in_sections more rest)
in_sections (Gives command ∷ more) are = in_sections more (All-tail GivesServed (Gives command) more are)

pub script_served : (text : List ℕ) (script : Script) → script_of text ≡ Ok script → AreServed script.clients
unfolding script_of
script_served text script e = at (first_bad [] (lines text)) e
  where
    all : Script
    all = record { clients = sections_in (lines text); mover = None }

    clients_in : Result Script BadLine → Type 0
    clients_in (Ok s) = AreServed s.clients
    clients_in (Err bad) = Unit {0}

    at : (bad : Option BadLine) → unwrap_or (option_map Err bad) (Ok all) ≡ Ok script → AreServed script.clients
    at None h = subst clients_in h (in_sections (filter_map statement_of_line (lines text)) (of_lines (lines text)))
    at (Some bad) h = absurd (cc)
