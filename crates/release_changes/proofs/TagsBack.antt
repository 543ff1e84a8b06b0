-- The pages of a tag directory that are given back, the first one first.
use Rattle.std.proofs.Common.{◌≡◌, ◌∙◌, ◌+◌, ◌<◌, ◌≤◌, drop, get_or, length, ℕ, zero, suc, Bool, true, false, cond, None, List, [], ◌∷◌, Contains, refl, sym, ap, subst, arith}
use Rattle.std.proofs.lemmas.Bool.{true≢false}
use Rattle.std.proofs.lemmas.List.{at_drop_more}
use Rattle.domain_changes.specs.domain_base.declared.place.Home.{Home}
use Rattle.domain_changes.specs.page_store.Pages.{Pages, same_home, without_page}
use Rattle.domain_changes.proofs.OfMetadataCells.Changed.{homes_same, same_itself}
use Rattle.domain_changes.specs.tag_dirs.declared.dir.TagPlace.{TagPlace}
use Rattle.domain_changes.specs.free_space.VolumeSpace.{with_waiting}
use Rattle.domain_changes.specs.free_space.declared.waiting.PageUse.TheVariants.{Metadata}
use Rattle.domain_changes.specs.free_space.Spaces.{IsHeld, Spaces, change_volume}
use Rattle.domain_changes.specs.file_release.Releases.{AreAllOnce}
use Rattle.domain_changes.specs.index_pages.Changes.{AreHeld, DropsIndex, with_waiting_at}
use Rattle.domain_changes.proofs.OfIndexPages.Dropped.{held_beside}
use Rattle.domain_changes.proofs.OfIndexPages.Homes.{head_there, tail_there}
use Rattle.domain_changes.specs.release_steps.Links.{homes_of}

-- so many pages in front are given back: what is left
pub record TagsLeft (group : ℕ) (space space_now : Spaces) (old new : Pages) (homes rest : List Home) : Type 0 where
  pub held : AreHeld space_now rest
  pub once : AreAllOnce rest
  pub waits : with_waiting_at rest group space_now ≡ with_waiting_at homes group space
  pub within : (home : Home) → Contains rest home → Contains homes home
  pub gone : (home : Home) → Contains homes home → ¬ Contains rest home → new home ≡ None
  pub others : (home : Home) → ¬ Contains homes home → new home ≡ old home

pub all_left : (group : ℕ) (space : Spaces) (old : Pages) (homes : List Home) → AreHeld space homes → AreAllOnce homes → TagsLeft group space space old old homes homes
all_left group space old homes held once = record {
  held = held;
  once = once;
  waits = refl;
  within = λ home inside. inside;
  gone = λ home inside off. absurd (off inside);
  others = λ home off. refl;
}

module _ (group : ℕ) (space space_now space_then : Spaces) (old mid new : Pages) (homes : List Home) (home : Home) (rest : List Home) (low : (h : Home) → Contains homes h → 1 ≤ h.vol) (left : TagsLeft group space space_now old mid homes (home ∷ rest))
    (waits : space_then ≡ change_volume (with_waiting (record { page = home.page; kind = Metadata; group = group })) space_now home.vol) (forgets : new ≡ without_page home mid)
  where
    one : Contains homes home
    one = left.within home (head_there home rest)

    later : (h : Home) → Contains rest h → Contains homes h
    later h inside = left.within h (tail_there home rest h inside)

    here : (h : Home) → same_home h home ≡ true → new h ≡ None
    here h same = ap (λ (p : Pages). p h) forgets ∙ ap (λ (b : Bool). cond b None (mid h)) same

    elsewhere : (h : Home) → same_home h home ≡ false → new h ≡ mid h
    elsewhere h other = ap (λ (p : Pages). p h) forgets ∙ ap (λ (b : Bool). cond b None (mid h)) other

    pub one_back : TagsLeft group space space_then old new homes rest
    one_back = record {
      held = λ h inside. subst (λ (s : Spaces). IsHeld s h.vol h.page) (sym waits)
          (held_beside group space_now home h (low home one) (low h (later h inside)) (λ e. left.once.0 (subst (Contains rest) (sym e) inside)) (left.held h (tail_there home rest h inside)));
      once = left.once.1;
      waits = ap (with_waiting_at rest group) waits ∙ left.waits;
      within = later;
      gone = λ h inside off. by_home h inside off (same_home h home) refl;
      others = λ h off. elsewhere h (apart h off) ∙ left.others h off;
    }
      where
        in_rest : (h : Home) → same_home h home ≡ false → Contains (home ∷ rest) h → Contains rest h
        in_rest h other (zero, within, is) = absurd (true≢false (sym (same_itself h) ∙ sym (ap (same_home h) is) ∙ other))
        in_rest h other (suc k, within, is) = (k, omega (arith, within), is)

        by_home : (h : Home) → Contains homes h → ¬ Contains rest h → (b : Bool) → same_home h home ≡ b → new h ≡ None
        by_home h inside off true same = here h same
        by_home h inside off false other = elsewhere h other ∙ left.gone h inside (λ there. off (in_rest h other there))

        apart : (h : Home) → ¬ Contains homes h → same_home h home ≡ false
        apart h off = by_test (same_home h home) refl
          where
            by_test : (b : Bool) → same_home h home ≡ b → b ≡ false
            by_test true is = absurd (off (subst (Contains homes) (sym (homes_same h home is)) one))
            by_test false is = refl

pub none_left : (group : ℕ) (space space_now : Spaces) (old new : Pages) (homes rest : List Home) → rest ≡ [] → TagsLeft group space space_now old new homes rest → DropsIndex group space space_now old new homes
none_left group space space_now old new homes rest none left = record {
  waits = subst (λ (hs : List Home). with_waiting_at hs group space_now ≡ with_waiting_at homes group space) none left.waits;
  gone = λ home inside. left.gone home inside (λ there. nothing (subst (λ (hs : List Home). Contains hs home) none there));
  others = left.others;
}
  where
    nothing : {home : Home} → Contains [] home → ⊥
    nothing inside = omega (arith, inside.1)

-- the page at a place is the first one that is left
pub one_behind : (places : List TagPlace) (i : ℕ) (p : TagPlace) → i < length places → get_or places i p ≡ p → homes_of (drop i places) ≡ p.home ∷ homes_of (drop (i + 1) places)
one_behind places i p within is = at_drop_more homes_of places i p within ∙ ap (λ (q : TagPlace). homes_of (q ∷ drop (i + 1) places)) is
