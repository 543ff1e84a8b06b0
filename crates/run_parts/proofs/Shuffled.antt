-- Histories that answer a script.
use Rattle.std.proofs.Common.{◌≡◌, ℕ, Option, Some, None, Ok, Err, unwrap_or, Bool, true, false, cond, eqb, List, [], ◌∷◌, ◌++◌, map, filter, refl, sym, ap, subst, ◌∙◌, arith}
use Rattle.std.proofs.lemmas.List.{map-append}
use Rattle.std.proofs.lemmas.List.Elements.{All-cons, All-filter, All-head, All-nil, All-tail, filter-append}
use Rattle.std.proofs.lemmas.Simd.{map-map}
use Rattle.std.specs.Option.{option_map, option_map_or}
use Rattle.std.specs.Str.Lines.{lines}
use Rattle.std.specs.List.{All, flat_map}
use Rattle.std.specs.List.Sorted.{IsStableByKey, ties}
use Rattle.std.specs.Ordering.{is_lt, nat_cmp}
use Rattle.std.proofs.lemmas.Bool.Decides.{nat_tests}
use Rattle.domain_faults.specs.fileset_values.Shuffle.{Shuffle, commands_of, same_actor}
use Rattle.domain_faults.specs.fileset_values.declared.command.Actor.{Actor}
use Rattle.domain_faults.specs.fileset_values.declared.command.Actor.TheVariants.{Client, Mover}
use Rattle.domain_faults.specs.fileset_values.declared.command.Command.{Command}
use Rattle.domain_faults.specs.fileset_values.declared.entry.Entry.{Entry}
use Rattle.script_text.specs.Script.{BadLine, first_bad, script_of, sections_in}
use Rattle.script_text.specs.declared.script.Script.{Script}
use Rattle.script_text.specs.declared.script.Section.{Section}
use Rattle.script_text.specs.Turns.{Turn, turn_of, turns_of}
use Rattle.run_parts.specs.Answering.{AnswersScript, SameByNumber, section_of}

-- sections that were sorted by their numbers
ties-number : (n : ℕ) (section : Section) → ties (λ (x y : Section). is_lt (nat_cmp x.number y.number)) (record { number = n; commands = [] }) section ≡ eqb n section.number
ties-number n section = grind (arith, nat_tests)

filter-same : {A : Type 0} (p q : A → Bool) (xs : List A) → ((x : A) → p x ≡ q x) → filter p xs ≡ filter q xs
filter-same p q [] same = refl
filter-same p q (x ∷ xs) same = rw (same x, filter-same p q xs same) refl

pub SameByNumber-from_stable : (sections sorted : List Section) → IsStableByKey (λ (section : Section). section.number) nat_cmp sections sorted → SameByNumber sections sorted
SameByNumber-from_stable sections sorted stable n =
    let at : Section = record { number = n; commands = [] } in
    sym (filter-same (ties (λ (x y : Section). is_lt (nat_cmp x.number y.number)) at) (λ section. eqb n section.number) sorted (ties-number n))
    ∙ stable at
    ∙ filter-same (ties (λ (x y : Section). is_lt (nat_cmp x.number y.number)) at) (λ section. eqb n section.number) sections (ties-number n)

-- what holds of the sections with each number holds of all
all_from_numbers : (P : Section → Type 0) (sections : List Section) → ((n : ℕ) → All P (filter (λ section. eqb n section.number) sections)) → All P sections
all_from_numbers P [] each = All-nil P
all_from_numbers P (section ∷ sections) each = All-cons P section sections (own (eqb section.number section.number) (nat_refl section.number) (each section.number)) (all_from_numbers P sections (λ n. rest n (eqb n section.number) (each n)))
  where
    nat_refl : (n : ℕ) → eqb n n ≡ true
    nat_refl n = grind (arith, nat_tests)

    own : (b : Bool) → b ≡ true → All P (cond b (section ∷ filter (λ s. eqb section.number s.number) sections) (filter (λ s. eqb section.number s.number) sections)) → P section
    own true is all = All-head P section _ all
    own false is all = absurd (cc)

    rest : (n : ℕ) (b : Bool) → All P (cond b (section ∷ filter (λ s. eqb n s.number) sections) (filter (λ s. eqb n s.number) sections)) → All P (filter (λ s. eqb n s.number) sections)
    rest n true all = All-tail P section _ all
    rest n false all = all

-- and of those in another order
pub all_of_same : (P : Section → Type 0) (sections others : List Section) → SameByNumber sections others → All P sections → All P others
all_of_same P sections others same all =
    all_from_numbers P others (λ n. subst (All P) (sym (same n)) (All-filter (λ section. eqb n section.number) P sections all))

-- a script that the grammar reads has no section of the mover
pub mover-None : (text : List ℕ) (script : Script) → script_of text ≡ Ok script → script.mover ≡ None
unfolding script_of
mover-None text script says = from_bad (first_bad [] (lines text)) says
  where
    from_bad : (bad : Option BadLine)
        → unwrap_or (option_map Err bad) (Ok (record { clients = sections_in (lines text); mover = None })) ≡ Ok script
        → script.mover ≡ None
    from_bad None is =
        let same : record { clients = sections_in (lines text); mover = None } ≡ script = cc in
        ap (λ (s : Script). s.mover) (sym same)
    from_bad (Some bad) is = absurd (cc)

-- ---- the commands of each actor

-- the commands of an actor's turns, in order
commands_in : Actor → List Turn → List Command
commands_in actor turns = map (λ t. t.1) (filter (λ t. same_actor actor t.0) turns)

filter-map : {A B : Type 0} (p : B → Bool) (f : A → B) (xs : List A) → filter p (map f xs) ≡ map f (filter (λ x. p (f x)) xs)
filter-map p f [] = refl
filter-map p f (x ∷ xs) = at (p (f x)) (filter-map p f xs)
  where
    at : (b : Bool) → filter p (map f xs) ≡ map f (filter (λ y. p (f y)) xs)
        → cond b (f x ∷ filter p (map f xs)) (filter p (map f xs)) ≡ map f (cond b (x ∷ filter (λ y. p (f y)) xs) (filter (λ y. p (f y)) xs))
    at true rest = ap (λ l. f x ∷ l) rest
    at false rest = rest

commands_of-turns : (actor : Actor) (history : List Entry) → commands_of actor history ≡ commands_in actor (map turn_of history)
unfolding commands_in
commands_of-turns actor history =
    sym (ap (λ l. map (λ t. t.1) l) (filter-map (λ t. same_actor actor t.0) turn_of history) ∙ map-map (λ t. t.1) turn_of (filter (λ e. same_actor actor e.actor) history))

commands_in-append : (actor : Actor) (xs ys : List Turn) → commands_in actor (xs ++ ys) ≡ commands_in actor xs ++ commands_in actor ys
unfolding commands_in
commands_in-append actor xs ys =
    ap (λ l. map (λ t. t.1) l) (filter-append (λ t. same_actor actor t.0) xs ys) ∙ map-append (λ t. t.1) (filter (λ t. same_actor actor t.0) xs) (filter (λ t. same_actor actor t.0) ys)

-- all commands of a section, or none, are an actor's
commands_in-section : (actor : Actor) (number : ℕ) (commands : List Command)
    → commands_in actor (map (λ command. (Client number, command)) commands) ≡ cond (same_actor actor (Client number)) commands []
unfolding commands_in
commands_in-section actor number commands =
    ap (λ l. map (λ t. t.1) l) (filter-map (λ t. same_actor actor t.0) (λ command. (Client number, command)) commands)
    ∙ map-map (λ t. t.1) (λ command. (Client number, command)) (filter (λ _. same_actor actor (Client number)) commands)
    ∙ at (same_actor actor (Client number)) commands
  where
    at : (b : Bool) (xs : List Command) → map (λ x. x) (filter (λ _. b) xs) ≡ cond b xs []
    at true [] = refl
    at true (x ∷ xs) = ap (λ l. x ∷ l) (at true xs)
    at false [] = refl
    at false (x ∷ xs) = at false xs

commands_in-client : (number : ℕ) (sections : List Section)
    → commands_in (Client number) (flat_map turns_of sections) ≡ flat_map (λ section. cond (eqb number section.number) section.commands []) sections
unfolding commands_in
commands_in-client number [] = refl
commands_in-client number (section ∷ sections) =
    commands_in-append (Client number) (turns_of section) (flat_map turns_of sections)
    ∙ ap (λ l. l ++ commands_in (Client number) (flat_map turns_of sections)) (commands_in-section (Client number) section.number section.commands)
    ∙ ap (λ l. cond (eqb number section.number) section.commands [] ++ l) (commands_in-client number sections)

commands_in-mover : (sections : List Section) → commands_in Mover (flat_map turns_of sections) ≡ []
unfolding commands_in
commands_in-mover [] = refl
commands_in-mover (section ∷ sections) =
    commands_in-append Mover (turns_of section) (flat_map turns_of sections)
    ∙ ap (λ l. l ++ commands_in Mover (flat_map turns_of sections)) (commands_in-section Mover section.number section.commands)
    ∙ commands_in-mover sections

-- only a client's own sections have commands of it
sections-own : (number : ℕ) (sections : List Section)
    → flat_map (λ section. cond (eqb number section.number) section.commands []) sections ≡ flat_map (λ section. section.commands) (filter (λ section. eqb number section.number) sections)
sections-own number [] = refl
sections-own number (section ∷ sections) = at (eqb number section.number) (sections-own number sections)
  where
    at : (b : Bool) → flat_map (λ s. cond (eqb number s.number) s.commands []) sections ≡ flat_map (λ s. s.commands) (filter (λ s. eqb number s.number) sections)
        → cond b section.commands [] ++ flat_map (λ s. cond (eqb number s.number) s.commands []) sections
        ≡ flat_map (λ s. s.commands) (cond b (section ∷ filter (λ s. eqb number s.number) sections) (filter (λ s. eqb number s.number) sections))
    at true rest = ap (λ l. section.commands ++ l) rest
    at false rest = rest

sections-same : (number : ℕ) (sections others : List Section) → SameByNumber sections others
    → flat_map (λ section. cond (eqb number section.number) section.commands []) others ≡ flat_map (λ section. cond (eqb number section.number) section.commands []) sections
sections-same number sections others same =
    sections-own number others ∙ ap (flat_map (λ section. section.commands)) (same number) ∙ sym (sections-own number sections)

-- a history that answers a script has each actor's commands
pub Shuffle-from_answers : (script : Script) (history : List Entry) → script.mover ≡ None → AnswersScript script history → Shuffle history (section_of script)
Shuffle-from_answers script history none_moves answers actor = commands_of-turns actor history ∙ ap (commands_in actor) answers.turns_are ∙ at actor
  where
    at : (actor : Actor) → commands_in actor (flat_map turns_of answers.sections) ≡ section_of script actor
    at (Client number) = commands_in-client number answers.sections ∙ sections-same number script.clients answers.sections answers.same
    at Mover = commands_in-mover answers.sections ∙ sym (ap (λ o. option_map_or (λ section. section.commands) o []) none_moves)
