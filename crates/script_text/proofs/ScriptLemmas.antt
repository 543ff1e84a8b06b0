-- What a script says, as its lines are read from the first on.
use Rattle.std.proofs.Common.{leb, ◌≡◌, ℕ, ◌≤◌, ◌<◌, Bool, true, false, ◌||◌, ◌+◌, ◌-◌, ◌^◌, min, Option, Some, None, Ok, Err, option_map, unwrap_or, List, [], ◌∷◌, ◌++◌, length, refl, ap, ◌∙◌, arith, append_assoc, length-append}
use Rattle.std.specs.List.{filter_map, cons_option, list_any}
use Rattle.std.proofs.lemmas.Bool.Decides.{nat_tests}
use Rattle.std.specs.Str.Lines.{lines}
use Rattle.std.proofs.lemmas.List.{append-nil}
use Rattle.std.proofs.lemmas.List.Elements.{filter_map-append}
use Rattle.command_text.specs.fileset_values.declared.command.Command.{Command}
use Rattle.script_text.specs.declared.fault.FaultKind.{FaultKind}
use Rattle.script_text.specs.declared.fault.FaultKind.TheVariants as fault
use Rattle.script_text.specs.declared.script.Section.{Section}
use Rattle.script_text.specs.declared.statement.Statement.{Statement}
use Rattle.script_text.specs.declared.statement.Statement.TheVariants.{Opens, Gives}
use Rattle.script_text.specs.Reading.{IsTaken, with_command, with_line, with_statement}
use Rattle.script_text.specs.Script.{BadLine, commands_at_front, first_bad, first_kind, is_full, kinds_of_statement, kind_of_line, script_of, sections_in, sections_of, statement_of_line}

commands_at_front-opens : (statements : List Statement) (n : ℕ) → commands_at_front (statements ++ Opens n ∷ []) ≡ commands_at_front statements
commands_at_front-opens [] n = refl
commands_at_front-opens (Opens m ∷ statements) n = refl
commands_at_front-opens (Gives c ∷ statements) n = ap (λ cs. c ∷ cs) (commands_at_front-opens statements n)

-- a section with these commands
section : ℕ → List Command → Section
section n commands = record { number = n; commands = commands }

sections_of-opens : (statements : List Statement) (n : ℕ) → sections_of (statements ++ Opens n ∷ []) ≡ sections_of statements ++ section n [] ∷ []
unfolding section
sections_of-opens [] n = refl
sections_of-opens (Opens m ∷ statements) n =
    ap (λ cs. section m cs ∷ sections_of (statements ++ Opens n ∷ [])) (commands_at_front-opens statements n)
    ∙ ap (λ ss. section m (commands_at_front statements) ∷ ss) (sections_of-opens statements n)
sections_of-opens (Gives c ∷ statements) n = sections_of-opens statements n

-- one more command belongs to the section that is open, and if none is, comes before the next one
commands_at_front-none : (statements : List Statement) (c : Command) → sections_of statements ≡ [] → commands_at_front (statements ++ Gives c ∷ []) ≡ commands_at_front statements ++ c ∷ []
commands_at_front-none [] c none = refl
commands_at_front-none (Opens m ∷ statements) c none = absurd (cc)
commands_at_front-none (Gives d ∷ statements) c none = ap (λ cs. d ∷ cs) (commands_at_front-none statements c none)

commands_at_front-some : (statements : List Statement) (c : Command) (s : Section) (ss : List Section) → sections_of statements ≡ s ∷ ss → commands_at_front (statements ++ Gives c ∷ []) ≡ commands_at_front statements
commands_at_front-some [] c s ss some = absurd (cc)
commands_at_front-some (Opens m ∷ statements) c s ss some = refl
commands_at_front-some (Gives d ∷ statements) c s ss some = ap (λ cs. d ∷ cs) (commands_at_front-some statements c s ss some)

sections_of-gives : (statements : List Statement) (c : Command) → sections_of (statements ++ Gives c ∷ []) ≡ with_command (sections_of statements) c
unfolding section
sections_of-gives [] c = refl
sections_of-gives (Gives d ∷ statements) c = sections_of-gives statements c
sections_of-gives (Opens m ∷ statements) c =
    ap (λ ss. section m (commands_at_front (statements ++ Gives c ∷ [])) ∷ ss) (sections_of-gives statements c) ∙ at (sections_of statements) refl
  where
    at : (ss : List Section) → sections_of statements ≡ ss
        → section m (commands_at_front (statements ++ Gives c ∷ [])) ∷ with_command ss c ≡ with_command (section m (commands_at_front statements) ∷ ss) c
    at [] is = ap (λ cs. section m cs ∷ []) (commands_at_front-none statements c is)
    at (s ∷ ss) is = ap (λ cs. section m cs ∷ with_command (s ∷ ss) c) (commands_at_front-some statements c s ss is)

sections_of-push : (statements : List Statement) (s : Statement) → sections_of (statements ++ s ∷ []) ≡ with_statement (sections_of statements) s
unfolding section
sections_of-push statements (Opens n) = sections_of-opens statements n
sections_of-push statements (Gives c) = sections_of-gives statements c

sections_of-more : (statements : List Statement) (said : Option Statement) → sections_of (statements ++ cons_option said []) ≡ unwrap_or (option_map (with_statement (sections_of statements)) said) (sections_of statements)
sections_of-more statements None = ap sections_of (append-nil statements)
sections_of-more statements (Some s) = sections_of-push statements s

-- the sections that the lines open, with one line more
sections_in-more : (before : List (List ℕ)) (line : List ℕ) → sections_in (before ++ line ∷ []) ≡ with_line (sections_in before) line
sections_in-more before line =
    ap sections_of (filter_map-append statement_of_line before (line ∷ []))
    ∙ sections_of-more (filter_map statement_of_line before) (statement_of_line line)

-- the last of some sections
pub with_command-last : (done : List Section) (s : Section) (c : Command) → with_command (done ++ s ∷ []) c ≡ done ++ record { number = s.number; commands = s.commands ++ c ∷ [] } ∷ []
with_command-last [] s c = refl
with_command-last (d ∷ []) s c = refl
with_command-last (d ∷ e ∷ done) s c = ap (λ ss. d ∷ ss) (with_command-last (e ∷ done) s c)

pub is_full-last : (done : List Section) (s : Section) → is_full (done ++ s ∷ []) ≡ leb 2_000 (length s.commands)
is_full-last [] s = refl
is_full-last (d ∷ []) s = refl
is_full-last (d ∷ e ∷ done) s = is_full-last (e ∷ done) s

-- a command that fits into the last section, and one that does not
pub first_kind-gives : (done : List Section) (s : Section) (c : Command) → length s.commands < 2_000 → first_kind (kinds_of_statement (done ++ s ∷ []) (Some (Gives c))) ≡ None
first_kind-gives done s c few =
    let test : leb 2_000 (length s.commands) ≡ false = grind (arith, nat_tests) in
    rw (is_full-last done s, test) refl

pub first_kind-many : (done : List Section) (s : Section) (c : Command) → 2_000 ≤ length s.commands → first_kind (kinds_of_statement (done ++ s ∷ []) (Some (Gives c))) ≡ Some fault.TooManyCommands
first_kind-many done s c many =
    let test : leb 2_000 (length s.commands) ≡ true = grind (arith, nat_tests) in
    rw (is_full-last done s, test) refl

pub list_any-last : (p : Section → Bool) (xs : List Section) (x : Section) → list_any p xs ≡ false → list_any p (xs ++ x ∷ []) ≡ p x
list_any-last p [] x none = at (p x)
  where
    at : (b : Bool) → (b || false) ≡ b
    at true = refl
    at false = refl
list_any-last p (y ∷ xs) x none =
    let both = neither (p y) (list_any p xs) none in
    rw (both.0) (list_any-last p xs x both.1)
  where
    neither : (a b : Bool) → (a || b) ≡ false → (a ≡ false) × (b ≡ false)
    neither true b is = absurd (cc)
    neither false b is = (refl, is)

first_bad-none : (before : List (List ℕ)) (line : List ℕ) (more : List (List ℕ)) → kind_of_line (sections_in before) line ≡ None → first_bad before (line ∷ more) ≡ first_bad (before ++ line ∷ []) more
first_bad-none before line more e = rw e refl

first_bad-some : (before : List (List ℕ)) (line : List ℕ) (more : List (List ℕ)) (kind : FaultKind) → kind_of_line (sections_in before) line ≡ Some kind → first_bad before (line ∷ more) ≡ Some (record { line = length before + 1; kind = kind })
first_bad-some before line more kind e = rw e refl

-- The lines of the text before the rest are good and make this section, and number counts them as far as 32 bits go.
pub record IsReadTo (text rest : List ℕ) (so_far : List Section) (number : ℕ) : Type 0 where
  pub before : List (List ℕ)
  pub whole : lines text ≡ before ++ lines rest
  pub good : first_bad [] (lines text) ≡ first_bad before (lines rest)
  pub sections : so_far ≡ sections_in before
  pub count : number ≡ min (length before) (2 ^ 32 - 1)

pub read_nothing : (text : List ℕ) → IsReadTo text text [] 0
read_nothing text = record { before = []; whole = refl; good = refl; sections = refl; count = refl }

pub read_more : (text rest line after : List ℕ) (so_far next : List Section) (number : ℕ) → IsReadTo text rest so_far number → lines rest ≡ line ∷ lines after → IsTaken so_far line next → IsReadTo text after next (min (number + 1) (2 ^ 32 - 1))
read_more text rest line after so_far next number h first taken =
    let good : kind_of_line (sections_in h.before) line ≡ None = rw (← h.sections) taken.0 in
    record {
      before = h.before ++ line ∷ [];
      whole = h.whole ∙ rw (first, append_assoc) refl;
      good = h.good ∙ rw first (first_bad-none h.before line (lines after) good);
      sections = taken.1 ∙ rw (sections_in-more h.before line, h.sections) refl;
      count = omega (arith, h.count, length-append h.before (line ∷ []));
    }

-- a bad line stops the reading
pub read_bad : (text rest line after : List ℕ) (so_far : List Section) (number : ℕ) (kind : FaultKind) → IsReadTo text rest so_far number → lines rest ≡ line ∷ lines after → kind_of_line so_far line ≡ Some kind →
    (bad : BadLine) × (script_of text ≡ Err bad) × (min (number + 1) (2 ^ 32 - 1) ≡ min bad.line (2 ^ 32 - 1)) × (kind ≡ bad.kind)
unfolding script_of
read_bad text rest line after so_far number kind h first fault =
    let bad : kind_of_line (sections_in h.before) line ≡ Some kind = rw (← h.sections) fault in
    let found : first_bad [] (lines text) ≡ Some (record { line = length h.before + 1; kind = kind }) =
    h.good ∙ rw first (first_bad-some h.before line (lines after) kind bad) in
    (record { line = length h.before + 1; kind = kind }, rw found refl, omega (arith, h.count), refl)

-- a script with no bad line is read to its end
pub read_all : (text rest : List ℕ) (so_far : List Section) (number : ℕ) → IsReadTo text rest so_far number → length rest ≡ 0 → script_of text ≡ Ok (record { clients = so_far; mover = None })
unfolding script_of
read_all text [] so_far number h e =
    let none : first_bad [] (lines text) ≡ None = h.good in
    let all : lines text ≡ h.before = h.whole ∙ append-nil h.before in
    rw (none, h.sections, all) refl
read_all text (b ∷ rest) so_far number h e = absurd (omega (arith, e))
