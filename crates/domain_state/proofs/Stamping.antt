-- Stamps of the entries of a history.
use Rattle.std.proofs.Common.{Bool, ◌≡◌, ◌∙◌, ◌+◌, ◌<◌, ◌≤◌, ◌++◌, ℕ, zero, suc, true, false, List, [], ◌∷◌, Option, All, get_or, length, set, refl, sym, ap, subst, arith, ⊎_elim, if◌then◌else◌}
use Rattle.std.proofs.Math.Logic.{∥∥₁_map}
use Rattle.std.proofs.lemmas.Bool.{cases_lt}
use Rattle.no_faults.specs.page_store.Pages.{Pages}
use Rattle.no_faults.specs.fileset_values.declared.command.Command.{Command}
use Rattle.no_faults.specs.fileset_values.declared.entry.Entry.{Entry}
use Rattle.no_faults.proofs.OfReleaseList.Lists.{get_front, get_last, longer}
use Rattle.no_faults.specs.legal_histories.GoingOn.{stamped}
use Rattle.no_faults.proofs.OfLegalHistories.Restamped.{restamped}
use Rattle.no_faults.specs.domain_layout.Reached.{Frame}
use Rattle.no_faults.specs.domain_memory.declared.memory.DomainMemory.{DomainMemory}
use Rattle.domain_state.specs.History.{AreStamped, GoesOn, with_last_stamped}
use Rattle.domain_state.proofs.StaysWithin.{within_longer}

-- ---- the last one of some entries

pub record EndsIn (entries : List Entry) : Type 0 where
  pub front : List Entry
  pub last : Entry
  pub is : entries ≡ front ++ last ∷ []

ends_in : (e : Entry) (more : List Entry) → EndsIn (e ∷ more)
ends_in e [] = record { front = []; last = e; is = refl }
ends_in e (f ∷ more) = let later = ends_in f more in record { front = e ∷ later.front; last = later.last; is = ap (λ (l : List Entry). e ∷ l) later.is }

stamped_end : (stamp : ℕ) (front : List Entry) (e : Entry) → with_last_stamped stamp (front ++ e ∷ []) ≡ front ++ stamped stamp e ∷ []
stamped_end stamp [] e = refl
stamped_end stamp (x ∷ []) e = refl
stamped_end stamp (x ∷ y ∷ front) e = ap (λ (l : List Entry). x ∷ l) (stamped_end stamp (y ∷ front) e)

pub stamped_set : (stamp : ℕ) (entries : List Entry) (k : ℕ) (d : Entry) → k + 1 ≡ length entries → set entries k (stamped stamp (get_or entries k d)) ≡ with_last_stamped stamp entries
stamped_set stamp [] k d is = absurd (omega (arith, is))
stamped_set stamp (x ∷ []) zero d is = refl
stamped_set stamp (x ∷ []) (suc k) d is = absurd (omega (arith, is))
stamped_set stamp (x ∷ y ∷ more) zero d is = absurd (omega (arith, is))
stamped_set stamp (x ∷ y ∷ more) (suc k) d is = ap (λ (l : List Entry). x ∷ l) (stamped_set stamp (y ∷ more) k d (omega (arith, is)))

pub length_stamped : (stamp : ℕ) (entries : List Entry) → length (with_last_stamped stamp entries) ≡ length entries
length_stamped stamp [] = refl
length_stamped stamp (e ∷ []) = refl
length_stamped stamp (e ∷ f ∷ more) = ap suc (length_stamped stamp (f ∷ more))

-- ---- an event that ends

module _ (calls : ℕ) (front : List Entry) (last : Entry) (stamps : AreStamped true calls (front ++ last ∷ [])) where
  front_stamped : All (λ before. before.stamp ≤ calls) front
  front_stamped k d low =
      subst (λ (e : Entry). e.stamp ≤ calls) (get_front front (last ∷ []) k d low) (stamps k d (omega (arith, low, longer front last)))

  restamped_all : AreStamped false calls (front ++ stamped calls last ∷ [])
  restamped_all k d low = ⊎_elim
      (λ in_front. subst (λ (e : Entry). e.stamp ≤ calls) (sym (get_front front (stamped calls last ∷ []) k d in_front)) (front_stamped k d in_front))
      (λ from.
      let at : k ≡ length front = omega (arith, low, from, longer front (stamped calls last)) in
      subst (λ (e : Entry). e.stamp ≤ calls) (sym (ap (λ n. get_or (front ++ stamped calls last ∷ []) n d) at ∙ get_last front (stamped calls last) d)) (omega arith))
      (cases_lt k (length front))

module _ (pages : Pages) (frame : Frame) (sizes : List ℕ) (memory : DomainMemory) (job : Option Command) (calls : ℕ) where
  ended_front : (front : List Entry) (last : Entry) → AreStamped true calls (front ++ last ∷ []) → ∥ GoesOn pages frame sizes memory (front ++ last ∷ []) job ∥₁ → ∥ GoesOn pages frame sizes memory (front ++ stamped calls last ∷ []) job ∥₁
  ended_front front last stamps held = ∥∥₁_map held (λ goes. record {
    same = goes.same;
    all = goes.all;
    stands = goes.stands;
    leads = λ start is. ∥∥₁_map (goes.leads start is) (λ legal. restamped start (record start { filesets = goes.all }) front job last calls legal (front_stamped calls front last stamps));
    within = within_longer pages frame sizes memory memory (front ++ last ∷ []) (front ++ stamped calls last ∷ []) goes.within (omega arith) (omega (arith, longer front last, longer front (stamped calls last)));
  })

  pub ended : (entries : List Entry) → AreStamped true calls entries → ∥ GoesOn pages frame sizes memory entries job ∥₁ → ∥ GoesOn pages frame sizes memory (with_last_stamped calls entries) job ∥₁
  ended [] stamps held = held
  ended (e ∷ more) stamps held =
      let it = ends_in e more in
      subst (λ (l : List Entry). ∥ GoesOn pages frame sizes memory l job ∥₁) (sym (ap (with_last_stamped calls) it.is ∙ stamped_end calls it.front it.last))
      (ended_front it.front it.last (subst (AreStamped true calls) it.is stamps) (subst (λ (l : List Entry). ∥ GoesOn pages frame sizes memory l job ∥₁) it.is held))

-- an event that has added no entry leaves all as they were
module _ (pages : Pages) (frame : Frame) (sizes : List ℕ) (memory : DomainMemory) (job : Option Command) (calls : ℕ) where
  pub event_ended : (added : Bool) (entries : List Entry) → AreStamped added calls entries → ∥ GoesOn pages frame sizes memory entries job ∥₁ → ∥ GoesOn pages frame sizes memory (if added then with_last_stamped calls entries else entries) job ∥₁
  event_ended true entries stamps held = ended pages frame sizes memory job calls entries stamps held
  event_ended false entries stamps held = held

pub all_stamped : (calls : ℕ) (entries : List Entry) → AreStamped true calls entries → AreStamped false calls (with_last_stamped calls entries)
all_stamped calls [] stamps = λ k d low. absurd (omega (arith, low))
all_stamped calls (e ∷ more) stamps =
    let it = ends_in e more in
    subst (AreStamped false calls) (sym (ap (with_last_stamped calls) it.is ∙ stamped_end calls it.front it.last)) (restamped_all calls it.front it.last (subst (AreStamped true calls) it.is stamps))

-- ---- an event that adds an entry

pub added_stamped : (calls : ℕ) (entries : List Entry) (e : Entry) → AreStamped false calls entries → AreStamped true calls (entries ++ e ∷ [])
added_stamped calls entries e stamps k d low =
    let in_front : k < length entries = omega (arith, low, longer entries e) in
    subst (λ (x : Entry). x.stamp ≤ calls) (sym (get_front entries (e ∷ []) k d in_front)) (stamps k d in_front)
