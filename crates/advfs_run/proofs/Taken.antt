-- Entries, told by who gave which command, and their stamps.
use Rattle.std.proofs.Common.{◌≡◌, ◌∙◌, ◌++◌, ◌∷◌, [], ℕ, Bool, true, List, All, if◌then◌else◌, map, append_assoc, refl, sym, ap, subst}
use Rattle.std.proofs.lemmas.List.{map-append}
use Rattle.std.proofs.lemmas.List.Elements.{All-push}
use Rattle.domain_attaching.specs.fileset_values.declared.entry.Entry.{Entry}
use Rattle.domain_attaching.specs.domain_state.History.{with_last_stamped}
use Rattle.run_parts.specs.script_text.Turns.{Turn, turn_of}
use Rattle.advfs_run.specs.Quiet.{TellNoFault, TellsNoFault}

-- the last entry gets the stamp
stamped_end : (stamp : ℕ) (front : List Entry) (e : Entry) → with_last_stamped stamp (front ++ e ∷ []) ≡ front ++ record e { stamp = stamp } ∷ []
stamped_end stamp [] e = refl
stamped_end stamp (x ∷ []) e = refl
stamped_end stamp (x ∷ y ∷ front) e = ap (λ (l : List Entry). x ∷ l) (stamped_end stamp (y ∷ front) e)

-- one entry was added, and its event ends
module _ (stamp : ℕ) (before after ended : List Entry) (e : Entry) (added : Bool) (yes : added ≡ true) (adds : after ≡ before ++ e ∷ [])
    (ends : ended ≡ (if added then with_last_stamped stamp after else after)) where
  ended_is : ended ≡ before ++ record e { stamp = stamp } ∷ []
  ended_is = ends ∙ ap (λ t. if t then with_last_stamped stamp after else after) yes ∙ ap (with_last_stamped stamp) adds ∙ stamped_end stamp before e

  pub turn_taken : map turn_of ended ≡ map turn_of before ++ turn_of e ∷ []
  turn_taken = ap (map turn_of) ended_is ∙ map-append turn_of before (record e { stamp = stamp } ∷ [])

  pub turn_stamped : All (λ (x : Entry). x.stamp ≡ stamp) before → All (λ (x : Entry). x.stamp ≡ stamp) ended
  turn_stamped are =
      subst (λ (l : List Entry). All (λ (x : Entry). x.stamp ≡ stamp) l) (sym ended_is) (All-push (λ (x : Entry). x.stamp ≡ stamp) before (record e { stamp = stamp }) are refl)

  pub turn_quiet : TellsNoFault e.reply → TellNoFault before → TellNoFault ended
  turn_quiet tells are =
      subst TellNoFault (sym ended_is) (All-push (λ (x : Entry). TellsNoFault x.reply) before (record e { stamp = stamp }) are tells)

-- some turns more were taken, and the others are left
pub turns_on : (before after next rest all : List Turn) → after ≡ before ++ next → before ++ (next ++ rest) ≡ all → after ++ rest ≡ all
turns_on before after next rest all is so_far = ap (λ (l : List Turn). l ++ rest) is ∙ append_assoc before next rest ∙ so_far

-- what keeps a stamp keeps it by another name
pub stamps_on : (one other : ℕ) (before after : List Entry) → one ≡ other → (All (λ (x : Entry). x.stamp ≡ one) before → All (λ (x : Entry). x.stamp ≡ one) after)
    → All (λ (x : Entry). x.stamp ≡ other) before → All (λ (x : Entry). x.stamp ≡ other) after
stamps_on one other before after same more = subst (λ (n : ℕ). All (λ (x : Entry). x.stamp ≡ n) before → All (λ (x : Entry). x.stamp ≡ n) after) same more
