-- Entries that are numbered one after the other.
use Rattle.std.proofs.Common.{◌≡◌, ℕ, zero, suc, ◌<◌, ◌≤◌, nat_lt, Contains, append-nil, lt→ltb, ◌+◌, ◌==◌, ◌&&◌, Bool, true, false, List, [], ◌∷◌, ◌++◌, length, drop, refl, ap, sym, ◌∙◌, arith, eq-eqb}
use mathlib.Core.Bool.{false≢true}
use Rattle.domain_turn.specs.Views.{is_actor, one_if}
use Rattle.fileset_values.specs.declared.command.Actor.TheVariants as actor
use Rattle.fileset_values.specs.declared.entry.Entry.{Entry}
use Rattle.domain_turn.specs.Ledgers.{counts_from}

both : (b c : Bool) → (b && c) ≡ true → (b ≡ true) × (c ≡ true)
both true c is = (refl, is)
both false c is = absurd (false≢true is)

-- the next number goes after all others
pub counts_on : (number : ℕ) (entries : List Entry) (entry : Entry) → counts_from number entries ≡ true → entry.stamp ≡ number + length entries → counts_from number (entries ++ entry ∷ []) ≡ true
counts_on number [] entry counts is = ap (λ (b : Bool). b && true) (eq-eqb entry.stamp number (omega (arith, is)))
counts_on number (first ∷ entries) entry counts is =
    let parts = both (first.stamp == number) (counts_from (number + 1) entries) counts in
    ap (λ (b : Bool). b && counts_from (number + 1) (entries ++ entry ∷ [])) parts.0 ∙ counts_on (number + 1) entries entry parts.1 (omega (arith, is))

pub drop_front : {X : Type 0} (xs ys : List X) → drop (length xs) (xs ++ ys) ≡ ys
drop_front [] ys = refl
drop_front (x ∷ xs) ys = drop_front xs ys

-- what was added: nothing, or one entry of a client
pub record More (client : ℕ) (old new : List Entry) (b : Bool) : Type 0 where
  pub more : List Entry
  pub is : new ≡ old ++ more
  pub count : length more ≡ one_if b
  pub short : length more ≤ 1
  pub by : (entry : Entry) → Contains more entry → entry.actor ≡ actor.Client (client + 1)

only : (first entry : Entry) → Contains (first ∷ []) entry → entry ≡ first
only first entry (zero, low, is) = sym is
only first entry (suc k, low, is) = absurd (omega (arith, low))

pub more_of : (client : ℕ) (old new : List Entry) (b : Bool)
    → (b ≡ true → (entry : Entry) × (entry.actor ≡ actor.Client (client + 1)) × (new ≡ old ++ entry ∷ [])) → (b ≡ false → new ≡ old) → More client old new b
more_of client old new true one none = let it = one refl in record {
  more = it.0 ∷ [];
  is = it.2;
  count = refl;
  short = omega arith;
  by = λ entry there. ap (λ (e : Entry). e.actor) (only it.0 entry there) ∙ it.1;
}
more_of client old new false one none = record {
  more = [];
  is = none refl ∙ sym (append-nil old);
  count = refl;
  short = omega arith;
  by = λ entry there. absurd (let (k, low, is) = there in omega (arith, low));
}

true_of : (b : Bool) → lib.Dec.T b → b ≡ true
true_of true is = refl
true_of false is = absurd is

pub is_client : (client : ℕ) → client < 8 → is_actor client (actor.Client (client + 1)) ≡ true
is_client client low = ap (λ (b : Bool). b && (client + 1 == client + 1)) (true_of (nat_lt client 8) (lt→ltb client 8 low)) ∙ eq-eqb (client + 1) (client + 1) refl
