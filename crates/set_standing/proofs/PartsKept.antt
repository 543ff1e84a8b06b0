-- A domain stands on around a slot where nothing of its parts changes, and after one change and another.
use Rattle.std.proofs.Common.{◌≡◌, ◌∙◌, ◌==◌, ◌++◌, ℕ, cond, List, [], ◌∷◌, None, refl, sym, ap, subst, eqb-true, ⊎_elim}
use Rattle.std.proofs.lemmas.Bool.{eq-eqb, false_from_ne_true}
use Rattle.standing_laws.specs.domain_base.declared.place.CellAt.{CellAt}
use Rattle.standing_laws.specs.domain_base.declared.version.Version.{Version}
use Rattle.standing_laws.specs.tag_dirs.declared.dir.TagPlace.{TagPlace}
use Rattle.standing_laws.specs.release_list.Listing.{Listing}
use Rattle.standing_laws.proofs.OfDomainLayout.Reached.{same_number}
use Rattle.set_standing.specs.Around.{GoesOnAround}
use Rattle.set_standing.specs.Follow.{Said}
use Rattle.set_standing.specs.Parts.{AddsFiles, KeepsAround, Parts, TagsOf, domain_of}
use Rattle.set_standing.proofs.Joined.{all_stay, joined}

-- the tags of all slots are the same where those of the slot are
pub same_tags : (number : ℕ) (p q : Parts) (tags tags_now : ℕ → List TagPlace) → TagsOf number p q tags tags_now → q.tags ≡ p.tags → tags_now ≡ tags
same_tags number p q tags tags_now of same = λ i n. each n i
  where
    each : (n : ℕ) → tags_now n ≡ tags n
    each n = ⊎_elim
        (λ here. subst (λ (k : ℕ). tags_now k ≡ tags k) (sym here) (of.is ∙ same ∙ sym of.was))
        (λ differ. of.others n differ)
        (same_number n number)

module _ (number : ℕ) (version : Version) (born : ℕ) where
  pub none_kept : (p : Parts) → KeepsAround None number version born [] p p
  none_kept p s tags tags_now list list_now v b of adds around =
      subst (λ (ts : ℕ → List TagPlace). GoesOnAround None number (domain_of s tags p list) (domain_of s ts p list_now)) (sym (same_tags number p p tags tags_now of refl))
      (subst (λ (l : Listing). GoesOnAround None number (domain_of s tags p list) (domain_of s tags p l)) (sym adds) (all_stay number (domain_of s tags p list) around))

  split : (a b : List CellAt) (list list_now : Listing) → AddsFiles (a ++ b) list list_now → (m : Listing) × AddsFiles a list m × AddsFiles b m list_now
  split [] b list list_now adds = (list, refl, adds)
  split (x ∷ a) b list list_now adds = let later = split a b adds.0 list_now adds.2 in (later.0, (adds.0, adds.1, later.1), later.2)

  module _ (said : Said) (a b : List CellAt) (p q r : Parts) (one : KeepsAround None number version born a p q) (two : KeepsAround said number version born b q r) where
    pub both_kept : KeepsAround said number version born (a ++ b) p r
    both_kept s tags tags_now list list_now v w of adds around =
        let m = split a b list list_now adds in
        let go_one = one s tags tags_mid list m.0 v w of_one m.1 around in
        joined said number (domain_of s tags p list) (domain_of s tags_mid q m.0) (domain_of s tags_now r list_now) go_one (two s tags_mid tags_now m.0 list_now v w of_two m.2 go_one.0)
      where
        tags_mid : ℕ → List TagPlace
        tags_mid n = cond (n == number) q.tags (tags n)

        of_one : TagsOf number p q tags tags_mid
        of_one = record {
          was = of.was;
          is = ap (λ c. cond c q.tags (tags number)) (eq-eqb number number refl);
          others = λ other differ. ap (λ c. cond c q.tags (tags other)) (false_from_ne_true (other == number) (λ same. differ (eqb-true other number same)));
        }

        of_two : TagsOf number q r tags_mid tags_now
        of_two = record { was = of_one.is; is = of.is; others = λ other differ. of.others other differ ∙ sym (of_one.others other differ) }
