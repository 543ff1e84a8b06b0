-- The line of an entry is read as that entry, and what a line was read as is an entry.
use Rattle.std.proofs.Common.{◌≡◌, ◌≢◌, ℕ, ◌-◌, Bool, true, false, cond, not, eqb, Some, None, option_map, Result, Ok, Err, IfOk, List, [], ◌∷◌, ◌++◌, length, take, codes, refl, sym, ap, subst, ◌∙◌, arith, length-append}
use Rattle.std.specs.List.{after_first, before_first, list_all, slice_split}
use Rattle.std.proofs.lemmas.List.{append_assoc, take_at}
use Rattle.std.proofs.lemmas.Option.{option_and_then_some}
use Rattle.script_text.specs.fileset_values.declared.command.Actor.{Actor}
use Rattle.script_text.specs.fileset_values.declared.command.Actor.TheVariants.{Client, Mover}
use Rattle.script_text.specs.fileset_values.declared.command.Command.{Command}
use Rattle.script_text.specs.fileset_values.declared.entry.Entry.{Entry}
use Rattle.history_reading.specs.Entries.{IsActor, IsEntry, answer_kind, unstamped}
use Rattle.history_reading.specs.Reading.{actor_of, entry_of, is_arrow, reply_of, said_command, said_entry}
use Rattle.history_reading.proofs.ReplyForms.{reply_is}
use Rattle.history_reading.proofs.ReplyRead.{reply_parts, reply_read}
use Rattle.script_text.specs.History.{line_of, reply_text}
use Rattle.script_text.specs.command_text.Commands.{Words, verb_of}
use Rattle.script_text.specs.command_text.Texts.{actor_text, command_text}
use Rattle.script_text.specs.command_text.WellFormed.{IsWellFormed, Says}
use Rattle.script_text.proofs.OfCommandText.CommandForms.{command_is, other_read}
use Rattle.script_text.proofs.OfCommandText.CommandLemmas.{printed_says}
use Rattle.script_text.specs.word_forms.declared.fault.WordFault.{WordFault}
use Rattle.script_text.specs.word_forms.declared.fault.WordFault.TheVariants.{Malformed, OutOfMemory}
use Rattle.script_text.specs.word_forms.Forms.{number_within}
use Rattle.script_text.specs.word_forms.Read.{Fails}
use Rattle.script_text.proofs.OfWordForms.Cuts.{after_at, before_at, cut_two, lacks, uncut}
use Rattle.script_text.proofs.OfWordForms.NumbersRead.{number_lacks, within_read}
use Rattle.script_text.proofs.OfWordForms.ReadForms.{map_some, some_same, within_is}

-- ** What a line was read as

actor_is : (word : List ℕ) (actor : Actor) → actor_of word ≡ Some actor → IsActor actor
unfolding actor_of
actor_is [] actor e = absurd (cc)
actor_is (mark ∷ digits) actor e = at (eqb mark 109) e
  where
    at : (t : Bool) → cond t (Some Mover) (option_map Client (number_within 1 8 digits)) ≡ Some actor → IsActor actor
    at true h = let P : Actor → Type 0 = IsActor in subst P (some_same Mover actor h) tt
    at false h =
        map_some Client (number_within 1 8 digits) actor (IsActor actor) h (λ n is last.
        let P : Actor → Type 0 = IsActor in subst P last (within_is 1 8 digits n is))

command_said : (first : List ℕ) (behind : Words) (command : Command) → said_command first behind ≡ Some command → IsWellFormed command
unfolding said_command
command_said first behind command e =
    option_and_then_some _ (verb_of first) command e (λ verb named said. (command_is verb behind command said).0)

-- an entry that has stamp 0
abbrev IsUnstamped : Entry → Type 0
IsUnstamped entry = IsEntry entry × (entry.stamp ≡ 0)

said_is : (words after : Words) (entry : Entry) → said_entry words after ≡ Some entry → IsUnstamped entry
unfolding said_entry
said_is (who ∷ first ∷ behind) after entry e =
    option_and_then_some _ (actor_of who) entry e (λ actor e1 h1.
    option_and_then_some _ (said_command first behind) entry h1 (λ command e2 h2.
    option_and_then_some _ (reply_of (answer_kind command) after) entry h2 (λ reply e3 h3.
    let P : Entry → Type 0 = IsUnstamped in
    subst P (some_same _ entry h3)
    (record { actor = actor_is who actor e1; command = command_said first behind command e2; reply = reply_is (answer_kind command) after reply e3 }, refl))))
said_is words after entry e = absurd (cc)

pub entry_is : (line : List ℕ) (entry : Entry) → entry_of line ≡ Some entry → IsUnstamped entry
unfolding entry_of
entry_is line entry e =
    let words = slice_split (λ b. eqb b 32) (take (length line - 1) line) in
    said_is (before_first is_arrow words) (after_first is_arrow words) entry e

-- ** The line of an entry

actor_read : (actor : Actor) → IsActor actor → actor_of (actor_text actor) ≡ Some actor
unfolding actor_of
actor_read (Client n) h = rw (within_read 1 8 n h.0 h.1 (omega arith)) refl
actor_read Mover h = refl

actor_lacks : (actor : Actor) → IsActor actor → lacks 32 (actor_text actor) ≡ true
actor_lacks (Client n) h = number_lacks 32 n (omega (arith, h.1)) (omega arith)
actor_lacks Mover h = refl

actor_other : (actor : Actor) → not (is_arrow (actor_text actor)) ≡ true
actor_other (Client n) = refl
actor_other Mover = refl

first_other : (c : Command) (s : Says (command_text c) c) → not (is_arrow s.first) ≡ true
unfolding verb_of
first_other c s = other_read verb_of s.first s.verb s.named refl

-- the line without its newline
front : (text : List ℕ) → take (length (text ++ 10 ∷ []) - 1) (text ++ 10 ∷ []) ≡ text
front text = take_at text (10 ∷ []) (length (text ++ 10 ∷ []) - 1) (omega (arith, length-append text (10 ∷ [])))

regroup : (a c r : List ℕ) → ((((a ++ 32 ∷ []) ++ c) ++ (32 ∷ 45 ∷ 62 ∷ 32 ∷ [])) ++ r) ≡ a ++ 32 ∷ (c ++ 32 ∷ (45 ∷ 62 ∷ 32 ∷ r))
regroup a c r = simp append_assoc

-- three texts with a space between, and `->` before the last, cut at the spaces
parted : (a c r : List ℕ) (actor : List ℕ) (command reply : Words) → slice_split (λ b. eqb b 32) a ≡ actor ∷ []
    → slice_split (λ b. eqb b 32) c ≡ command → slice_split (λ b. eqb b 32) r ≡ reply
    → slice_split (λ b. eqb b 32) (a ++ 32 ∷ (c ++ 32 ∷ (45 ∷ 62 ∷ 32 ∷ r))) ≡ actor ∷ (command ++ codes "->" ∷ reply)
parted a c r actor command reply e1 e2 e3 =
    let p : ℕ → Bool = λ b. eqb b 32 in
    cut_two p a 32 (c ++ 32 ∷ (45 ∷ 62 ∷ 32 ∷ r)) refl
    ∙ rw (e1, cut_two p c 32 (45 ∷ 62 ∷ 32 ∷ r) refl, e2, e3) refl

words_read : (e : Entry) → IsEntry e → (s : Says (command_text e.command) e.command) → slice_split (λ b. eqb b 32) (take (length (line_of e) - 1) (line_of e))
    ≡ (actor_text e.actor ∷ s.first ∷ s.behind) ++ codes "->" ∷ reply_parts e.reply
unfolding line_of
words_read e h s =
    let a = actor_text e.actor in
    let c = command_text e.command in
    let r = reply_text e.reply in
    ap (slice_split (λ b. eqb b 32)) (front ((((a ++ 32 ∷ []) ++ c) ++ (32 ∷ 45 ∷ 62 ∷ 32 ∷ [])) ++ r) ∙ regroup a c r)
    ∙ parted a c r a (s.first ∷ s.behind) (reply_parts e.reply) (uncut 32 a (actor_lacks e.actor h.actor)) s.words (reply_read (answer_kind e.command) e.reply h.reply).0

said_read : (e : Entry) → IsEntry e → (s : Says (command_text e.command) e.command)
    → said_entry (actor_text e.actor ∷ s.first ∷ s.behind) (reply_parts e.reply) ≡ Some (unstamped e)
unfolding said_entry said_command
said_read e h s =
    rw (actor_read e.actor h.actor, s.named, s.said, (reply_read (answer_kind e.command) e.reply h.reply).1) refl

pub line_read : (e : Entry) → IsEntry e → entry_of (line_of e) ≡ Some (unstamped e)
unfolding entry_of
line_read e h =
    let s = printed_says e.command h.command in
    let words = actor_text e.actor ∷ s.first ∷ s.behind in
    let others : list_all (λ w. not (is_arrow w)) words ≡ true =
    rw (actor_other e.actor, first_other e.command s, (command_is s.verb s.behind e.command s.said).1) refl in
    ap (λ ws. said_entry (before_first is_arrow ws) (after_first is_arrow ws)) (words_read e h s)
    ∙ rw (before_at is_arrow words (codes "->") (reply_parts e.reply) others refl, after_at is_arrow words (codes "->") (reply_parts e.reply) others refl) (said_read e h s)

-- ** No other entry has the line

line_unstamped : (e : Entry) → line_of (unstamped e) ≡ line_of e
unfolding line_of
line_unstamped e = refl

-- where nothing was read
pub none_has : (line : List ℕ) → entry_of line ≡ None → (e : Entry) → IsEntry e → line_of e ≢ line
none_has line none e h same = let g : Some (unstamped e) ≡ None = sym (line_read e h) ∙ ap entry_of same ∙ none in cc

-- where an entry was read whose line is another
pub other_has : (line : List ℕ) (said : Entry) → entry_of line ≡ Some said → line_of said ≢ line → (e : Entry) → IsEntry e → line_of e ≢ line
other_has line said is differs e h same =
    let g : Some (unstamped e) ≡ Some said = sym (line_read e h) ∙ ap entry_of same ∙ is in
    differs (ap line_of (sym (some_same (unstamped e) said g)) ∙ line_unstamped e ∙ same)

-- entries with one line are the same but for their stamps
pub one_entry : (e o : Entry) → IsEntry e → IsEntry o → line_of e ≡ line_of o → unstamped e ≡ unstamped o
one_entry e o h k same = some_same (unstamped e) (unstamped o) (sym (line_read e h) ∙ ap entry_of same ∙ line_read o k)

-- ** What is said of a line

pub kept : (line : List ℕ) (said : Entry) (r : Result Entry WordFault) → entry_of line ≡ Some said
    → IfOk r (λ same. (same ≡ said) × (line_of said ≡ line)) → IfOk r (λ e. IsEntry e × (e.stamp ≡ 0) × (line_of e ≡ line))
kept line said (Ok e) is h =
    let P : Entry → Type 0 = λ x. IsEntry x × (x.stamp ≡ 0) × (line_of x ≡ line) in
    let u = entry_is line said is in
    subst P (sym h.0) (u.0, u.1, h.1)
kept line said (Err fault) is h = tt

pub failed : (line : List ℕ) (fault : WordFault) → Fails fault (entry_of line) → fault ≡ Malformed → (e : Entry) → IsEntry e → line_of e ≢ line
failed line Malformed none same e h = none_has line none e h
failed line OutOfMemory none same e h = absurd (cc)
