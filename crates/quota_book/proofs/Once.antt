-- Owners that are noted one after the other, until one comes twice.
use Rattle.std.proofs.Common.{◌≡◌, ◌∙◌, ℕ, ◌+◌, ◌<◌, ◌≤◌, Bool, true, false, cond, ◌||◌, List, [], ◌∷◌, ◌++◌, length, take, drop, get_or, Option, Some, None, is_some, refl, sym, ap, subst}
use Rattle.std.proofs.lemmas.Bool.{true≢false}
use Rattle.std.proofs.lemmas.Cmp.{eq_by_cmp_equiv}
use Rattle.std.proofs.lemmas.List.{append-nil, drop_more, take-append-drop, take_all, take_more}
use Rattle.std.proofs.lemmas.List.Elements.{filter_map-append}
use Rattle.std.specs.List.{AllByRecursion, IsDistinct, cons_option}
use Rattle.std.specs.FinMap.Entries.{find, find-put, put}
use Rattle.cell_records.specs.declared.record.Record.{Record}
use Rattle.fileset_model.specs.fileset_values.Orders.{owner_cmp, owner_cmp-total}
use Rattle.fileset_model.specs.fileset_values.declared.command.Owner.{Owner}
use Rattle.fileset_model.specs.declared.fileset.Limits.{Limits}
use Rattle.quota_book.specs.Owners.{same_owner}
use Rattle.quota_book.specs.QuotaCells.{AreOnce, Notes, NotesSaid, Said, Seen, limits_said, said_by, was_seen}
use Rattle.quota_book.proofs.Cells.{once_before}

abbrev is_said : Owner → Said → Bool
is_said who said = is_some (find owner_cmp who said)

pub put_notes : (who : Owner) (old new : Seen) → was_seen old who ≡ false → new ≡ put owner_cmp who tt old → Notes who old new true
put_notes who old new unseen is = (unseen, λ other. ap (λ s. was_seen s other) is ∙ ap is_some (find-put owner_cmp owner_cmp-total other who tt old) ∙ by_test (same_owner other who) (find owner_cmp other old))
  where
    by_test : (b : Bool) (o : Option (Unit {0})) → is_some (cond b (Some tt) o) ≡ (b || is_some o)
    by_test true o = refl
    by_test false o = refl

said_append : (who : Owner) (xs : Said) (e : Owner × Limits) → is_said who (xs ++ e ∷ []) ≡ (same_owner who e.0 || is_said who xs)
said_append who [] e = by_test (same_owner who e.0)
  where
    by_test : (b : Bool) → is_some (cond b (Some e.1) None) ≡ (b || false)
    by_test true = refl
    by_test false = refl
said_append who (x ∷ xs) e = by_test (same_owner who x.0) (same_owner who e.0) (said_append who xs e)
  where
    by_test : (b s : Bool) → is_some (find owner_cmp who (xs ++ e ∷ [])) ≡ (s || is_said who xs)
        → is_some (cond b (Some x.1) (find owner_cmp who (xs ++ e ∷ []))) ≡ (s || is_some (cond b (Some x.1) (find owner_cmp who xs)))
    by_test true true rest = refl
    by_test true false rest = refl
    by_test false s rest = rest

all_push : (x : Owner × Limits) (xs : Said) (e : Owner × Limits) → AllByRecursion (λ (y : Owner × Limits). same_owner x.0 y.0 ≡ false) xs → same_owner x.0 e.0 ≡ false
    → AllByRecursion (λ (y : Owner × Limits). same_owner x.0 y.0 ≡ false) (xs ++ e ∷ [])
all_push x [] e all apart = (apart, tt)
all_push x (y ∷ xs) e all apart = (all.0, all_push x xs e all.1 apart)

unsaid_head : (x : Owner × Limits) (xs : Said) (e : Owner × Limits) → is_said e.0 (x ∷ xs) ≡ false → (same_owner x.0 e.0 ≡ false) × (is_said e.0 xs ≡ false)
unsaid_head x xs e unsaid = by_test (same_owner e.0 x.0) refl unsaid
  where
    by_test : (b : Bool) → same_owner e.0 x.0 ≡ b → is_some (cond b (Some x.1) (find owner_cmp e.0 xs)) ≡ false → (same_owner x.0 e.0 ≡ false) × (is_said e.0 xs ≡ false)
    by_test true same is = absurd (true≢false is)
    by_test false apart is = ((eq_by_cmp_equiv owner_cmp-total).symm x.0 e.0 ∙ apart, is)

once_push : (xs : Said) (e : Owner × Limits) → AreOnce xs → is_said e.0 xs ≡ false → AreOnce (xs ++ e ∷ [])
unfolding IsDistinct
once_push [] e once unsaid = (tt, tt)
once_push (x ∷ xs) e once unsaid =
    let parts = unsaid_head x xs e unsaid in
    (all_push x xs e once.0 parts.0, once_push xs e once.1 parts.1)

-- the owners that were noted so far are those about which something is said
pub record NotedSo (said : Said) (seen : Seen) : Type 0 where
  pub once : AreOnce said
  pub noted : (who : Owner) → was_seen seen who ≡ is_said who said

pub noted_none : NotedSo [] []
unfolding IsDistinct
noted_none = record { once = tt; noted = λ who. refl }

step : (xs : Said) (o : Option (Owner × Limits)) (old new : Seen) → NotedSo xs old → NotesSaid o old new true → NotedSo (xs ++ cons_option o []) new
step xs None old new so notes = subst (λ s. NotedSo s new) (sym (append-nil xs)) (subst (NotedSo xs) (sym notes.1) so)
step xs (Some e) old new so notes = record {
  once = once_push xs e so.once (sym (so.noted e.0) ∙ notes.0);
  noted = λ who. notes.1 who ∙ ap (λ b. same_owner who e.0 || b) (so.noted who) ∙ sym (said_append who xs e);
}

module _ (records : List Record) (i : ℕ) (d : Record) (within : i < length records) where
  abbrev r : Record
  r = get_or records i d

  abbrev front : List Record
  front = take i records

  all : said_by records ≡ said_by front ++ cons_option (limits_said r) (said_by (drop (i + 1) records))
  all = ap said_by (sym (take-append-drop i records)) ∙ filter_map-append limits_said front (drop i records) ∙ ap (λ (rs : List Record). said_by front ++ said_by rs) (drop_more records i d within)

  next : said_by (take (i + 1) records) ≡ said_by front ++ cons_option (limits_said r) []
  next = ap said_by (take_more records i d within) ∙ filter_map-append limits_said front (r ∷ [])

  pub noted_more : (old new : Seen) (b : Bool) → b ≡ true → NotedSo (said_by front) old → NotesSaid (limits_said r) old new b → NotedSo (said_by (take (i + 1) records)) new
  noted_more old new b is so notes = subst (λ s. NotedSo s new) (sym next) (step (said_by front) (limits_said r) old new so (subst (NotesSaid (limits_said r) old new) is notes))

  pub comes_twice : (old new : Seen) (b : Bool) → b ≡ false → NotedSo (said_by front) old → NotesSaid (limits_said r) old new b → ¬ AreOnce (said_by records)
  comes_twice old new b is so notes once = by_said (limits_said r) (subst (NotesSaid (limits_said r) old new) is notes) (subst AreOnce all once)
    where
      by_said : (o : Option (Owner × Limits)) → NotesSaid o old new false → AreOnce (said_by front ++ cons_option o (said_by (drop (i + 1) records))) → ⊥
      by_said None notes once = true≢false (sym notes.0)
      by_said (Some e) notes once = true≢false (sym notes ∙ so.noted e.0 ∙ ap is_some (once_before (said_by front) e (said_by (drop (i + 1) records)) once))

pub noted_all : (records : List Record) (i : ℕ) (seen : Seen) → length records ≤ i → NotedSo (said_by (take i records)) seen → AreOnce (said_by records)
noted_all records i seen end so = subst (λ (rs : List Record). AreOnce (said_by rs)) (take_all i records end) so.once
