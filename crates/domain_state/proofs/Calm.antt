-- Histories in which no reply tells that a volume panicked.
use Rattle.std.proofs.Common.{◌≡◌, ◌∙◌, ◌++◌, ◌∷◌, ℕ, List, [], Contains, length, map, get_or, refl, sym, ap, subst, arith, ⊎_elim}
use Rattle.std.proofs.lemmas.Bool.{cases_lt}
use Rattle.std.proofs.lemmas.List.{map-append}
use Rattle.no_faults.specs.fileset_values.declared.entry.Entry.{Entry}
use Rattle.no_faults.specs.fileset_values.declared.reply.Refusal.TheVariants.{Panicked}
use Rattle.no_faults.specs.fileset_values.declared.reply.Reply.{Reply}
use Rattle.no_faults.specs.fileset_values.declared.reply.Reply.TheVariants.{Refused}
use Rattle.no_faults.proofs.OfReleaseList.Lists.{get_front, get_last, longer}
use Rattle.domain_state.specs.History.{IsCalm, NonePanicked, with_last_stamped}

pub none_yet_panicked : NonePanicked []
none_yet_panicked volume there = omega (arith, there.1)

replies : List Entry → List Reply
replies entries = map (λ (before : Entry). before.reply) entries

-- what a list with one more contains is that one, or in the list
in_either : (front : List Reply) (last r : Reply) → Contains (front ++ last ∷ []) r → ¬ Contains front r → last ≡ r
in_either front last r (k, low, is) beside = ⊎_elim
    (λ in_front. absurd (beside (k, in_front, sym (get_front front (last ∷ []) k r in_front) ∙ is)))
    (λ from.
    let at : k ≡ length front = omega (arith, low, from, longer front last) in
    sym (ap (λ n. get_or (front ++ last ∷ []) n r) at ∙ get_last front last r) ∙ is)
    (cases_lt k (length front))

pub added_calm : (entries : List Entry) (e : Entry) → NonePanicked entries → IsCalm e.reply → NonePanicked (entries ++ e ∷ [])
unfolding replies
added_calm entries e calm this volume there =
    (this volume).0 (in_either (replies entries) e.reply (Refused (Panicked volume))
    (subst (λ l. Contains l (Refused (Panicked volume))) (map-append (λ (before : Entry). before.reply) entries (e ∷ [])) there) (calm volume))

-- stamps are no part of it
same_replies : (stamp : ℕ) (entries : List Entry) → map (λ (before : Entry). before.reply) (with_last_stamped stamp entries) ≡ map (λ (before : Entry). before.reply) entries
same_replies stamp [] = refl
same_replies stamp (e ∷ []) = refl
same_replies stamp (e ∷ f ∷ more) = ap (λ (l : List Reply). e.reply ∷ l) (same_replies stamp (f ∷ more))

pub stamped_calm : (stamp : ℕ) (entries : List Entry) → NonePanicked entries → NonePanicked (with_last_stamped stamp entries)
stamped_calm stamp entries calm volume there = calm volume (subst (λ l. Contains l (Refused (Panicked volume))) (same_replies stamp entries) there)
