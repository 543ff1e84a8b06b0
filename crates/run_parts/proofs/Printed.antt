-- What is printed, line by line.
use Rattle.std.proofs.Common.{◌≡◌, ℕ, ◌+◌, ◌<◌, Option, List, [], ◌∷◌, ◌++◌, length, take, drop, get_or, codes, refl, sym, ap, subst, ◌∙◌, append_assoc, take-append-drop, add-one}
use Rattle.std.proofs.KnownBytes.{Appends-trans}
use Rattle.std.proofs.Math.Seq.{take-suc}
use Rattle.std.proofs.lemmas.Grind.{flat_map-append}
use Rattle.std.proofs.lemmas.List.{append-nil}
use Rattle.domain_faults.specs.fileset_values.declared.entry.Entry.{Entry}
use Rattle.script_text.specs.History.{history_text, line_of, reply_text}
use Rattle.script_text.specs.command_text.Texts.{actor_text, command_text}
use Rattle.run_parts.specs.Transfer.{AppendsFront, AppendsPart, HandsOn}

-- the text of one entry more
pub history_text-more : (history : List Entry) (i : ℕ) (e : Entry) → i < length history → e ≡ get_or history i e
    → history_text (take (i + 1) history) ≡ history_text (take i history) ++ line_of e
history_text-more history i e within here =
    ap (λ n. history_text (take n history)) (add-one i)
    ∙ ap history_text (take-suc history i e within)
    ∙ flat_map-append line_of (take i history) (get_or history i e ∷ [])
    ∙ ap (λ l. history_text (take i history) ++ l) (append-nil (line_of (get_or history i e)) ∙ ap line_of (sym here))

-- the text is that of a front and that of the rest
pub history_text-split : (history : List Entry) (i : ℕ) → history_text history ≡ history_text (take i history) ++ history_text (drop i history)
history_text-split history i = ap history_text (sym (take-append-drop i history)) ∙ flat_map-append line_of (take i history) (drop i history)

-- what comes after the text waits too
HandsOn-longer : (a b : Option (List ℕ)) (text waiting more : List ℕ) → HandsOn a b text waiting → HandsOn a b (text ++ more) (waiting ++ more)
HandsOn-longer a b text waiting more hands = record {
  front = hands.front;
  whole = ap (λ l. l ++ more) hands.whole ∙ append_assoc hands.front waiting more;
  grown = hands.grown;
}

-- what waited is handed on
HandsOn-next : (a b c : Option (List ℕ)) (text waiting left : List ℕ) → HandsOn a b text waiting → HandsOn b c waiting left → HandsOn a c text left
HandsOn-next a b c text waiting left first next = record {
  front = first.front ++ next.front;
  whole = first.whole ∙ ap (λ l. first.front ++ l) next.whole ∙ sym (append_assoc first.front next.front left);
  grown = Appends-trans a b c _ _ first.grown next.grown;
}

-- one line more is handed on
pub HandsOn-line : (a b c : Option (List ℕ)) (history : List Entry) (i : ℕ) (e : Entry) (waiting left : List ℕ) → i < length history → e ≡ get_or history i e
    → HandsOn a b (history_text (take i history)) waiting → HandsOn b c (waiting ++ line_of e) left → HandsOn a c (history_text (take (i + 1) history)) left
HandsOn-line a b c history i e waiting left within here first next =
    subst (λ text. HandsOn a c text left) (sym (history_text-more history i e within here))
    (HandsOn-next a b c _ _ left (HandsOn-longer a b _ waiting (line_of e) first) next)

-- a part of what waited is a part of the text, from its front
pub AppendsFront-waiting : (a b c : Option (List ℕ)) (text waiting : List ℕ) → HandsOn a b text waiting → AppendsFront b c waiting → AppendsFront a c text
AppendsFront-waiting a b c text waiting first part = record {
  front = first.front ++ part.front;
  rest = part.rest;
  whole = first.whole ∙ ap (λ l. first.front ++ l) part.whole ∙ sym (append_assoc first.front part.front part.rest);
  grown = Appends-trans a b c _ _ first.grown part.grown;
}

-- and so it is with more after the text
AppendsFront-more : (a b : Option (List ℕ)) (text more : List ℕ) → AppendsFront a b text → AppendsFront a b (text ++ more)
AppendsFront-more a b text more part = record {
  front = part.front;
  rest = part.rest ++ more;
  whole = ap (λ l. l ++ more) part.whole ∙ append_assoc part.front part.rest more;
  grown = part.grown;
}

-- a part of what waited and of the next line is a part of the history's text
pub AppendsFront-line : (a b c : Option (List ℕ)) (history : List Entry) (i : ℕ) (e : Entry) (waiting : List ℕ) → i < length history → e ≡ get_or history i e
    → HandsOn a b (history_text (take i history)) waiting → AppendsFront b c (waiting ++ line_of e) → AppendsFront a c (history_text history)
AppendsFront-line a b c history i e waiting within here first part =
    let line = line_of e in
    let lines : AppendsFront a c (history_text (take (i + 1) history)) =
    subst (AppendsFront a c) (sym (history_text-more history i e within here))
    (AppendsFront-waiting a b c _ (waiting ++ line) (HandsOn-longer a b _ waiting line first) part) in
    subst (AppendsFront a c) (sym (history_text-split history (i + 1)))
    (AppendsFront-more a c _ (history_text (drop (i + 1) history)) lines)

-- ---- a text that is not whole

more_some : (xs ys : List ℕ) → ¬ ys ≡ [] → ¬ xs ++ ys ≡ []
more_some [] ys some is = some is
more_some (x ∷ xs) ys some is = cc

some_more : (xs ys : List ℕ) → ¬ xs ≡ [] → ¬ xs ++ ys ≡ []
some_more [] ys some is = some refl
some_more (x ∷ xs) ys some is = cc

newline_some : let line : List ℕ = 10 ∷ [] in ¬ line ≡ []
newline_some is = cc

-- a line has at least its newline
line_some : (e : Entry) → ¬ line_of e ≡ []
unfolding line_of
line_some e = more_some (actor_text e.actor ++ codes " " ++ command_text e.command ++ codes " -> " ++ reply_text e.reply) (10 ∷ []) newline_some

-- the text from a line on was not printed
pub AppendsPart-line : (a b : Option (List ℕ)) (history : List Entry) (i : ℕ) (e : Entry) (waiting : List ℕ) → i < length history → e ≡ get_or history i e
    → HandsOn a b (history_text (take i history)) waiting → AppendsPart a b (history_text history)
AppendsPart-line a b history i e waiting within here hands =
    let left = waiting ++ line_of e in
    let later = history_text (drop (i + 1) history) in
    record {
      front = hands.front;
      rest = left ++ later;
      whole =
          history_text-split history (i + 1)
          ∙ ap (λ (text : List ℕ). text ++ later) (history_text-more history i e within here ∙ ap (λ (text : List ℕ). text ++ line_of e) hands.whole ∙ append_assoc hands.front waiting (line_of e))
          ∙ append_assoc hands.front left later;
      some = some_more left later (more_some waiting (line_of e) (line_some e));
      grown = hands.grown;
    }
