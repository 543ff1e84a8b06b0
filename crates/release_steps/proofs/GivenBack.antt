-- A page that is given back between calls and steps.
use Rattle.std.proofs.Common.{◌≡◌, ◌∙◌, ◌⊎◌, ⊎_elim, inl, inr, ℕ, ◌≤◌, zero, suc, false, List, [], ◌∷◌, Option, Some, None, Contains, refl, sym, ap, subst, arith}
use Rattle.std.proofs.lemmas.Bool.{both_ways}
use Rattle.std.specs.Option.{option_and_then, option_map_or}
use Rattle.release_list.specs.domain_base.declared.place.CellAt.{CellAt}
use Rattle.release_list.specs.domain_base.declared.place.Home.{Home}
use Rattle.release_list.specs.domain_base.declared.place.Tag.{Tag}
use Rattle.release_list.specs.tag_dirs.declared.dir.TagPlace.{TagPlace}
use Rattle.release_list.specs.tag_dirs.Directory.{has_home}
use Rattle.release_list.specs.extent_maps.declared.run.PagePlace.TheVariants.{Absent, At}
use Rattle.release_list.specs.free_space.declared.waiting.PageUse.{PageUse}
use Rattle.release_list.specs.free_space.declared.waiting.Waiting.{Waiting}
use Rattle.release_list.specs.free_space.Spaces.{IsHeld, Spaces}
use Rattle.release_list.specs.file_chains.Files.{places_of}
use Rattle.release_list.specs.fileset_files.Files.{Chains, place_at}
use Rattle.release_list.specs.fileset_files.Together.{AreTogether, IsHeldApart}
use Rattle.release_list.specs.file_release.Releases.{with_given}
use Rattle.release_list.proofs.OfFileRelease.Given.{allocated_given, held_given}
use Rattle.release_list.specs.Standing.{place_in}
use Rattle.release_list.specs.Steps.{IsWell, Now}
use Rattle.release_list.proofs.Standings.{low_home}
use Rattle.release_steps.specs.Lists.{with_waiting_page}
use Rattle.release_steps.specs.Tags.{AreAmong, start_of}
use Rattle.release_steps.specs.Waits.{StandsApart, Waits, waiting_at}
use Rattle.release_steps.proofs.Gone.{there_held, waits_more, waits_now}
use Rattle.release_steps.proofs.HeldSteps.{held_before, waits_not_held}
use Rattle.release_steps.proofs.OnlyThese.{waits_back}

only : (home other : Home) → Contains (home ∷ []) other → other ≡ home
only home other (zero, within, is) = sym is
only home other (suc k, within, is) = absurd (omega (arith, within))

module _ (first : Now) (home : Home) (kind : PageUse) (group : ℕ) (low : 1 ≤ home.vol) where
  abbrev given : Spaces
  given = with_given kind group (home ∷ []) first.space

  still_held : (other : Home) → 1 ≤ other.vol → ¬ other ≡ home → IsHeld first.space other.vol other.page → IsHeld given other.vol other.page
  still_held other from apart held = held_given kind group (home ∷ []) first.space other (λ x inside. subst (λ (h : Home). 1 ≤ h.vol) (sym (only home x inside)) low) from (λ inside. apart (only home other inside)) held

  kept : (other : Home) → 1 ≤ other.vol → ¬ other ≡ home → IsHeldApart first.space first.cells other → IsHeldApart given first.cells other
  kept other from apart is = record { held = still_held other from apart is.held; off_table = is.off_table }

  module _ (is_held : IsHeld first.space home.vol home.page) where
    waits_there : Waits given home.vol (waiting_at home kind group)
    waits_there = waits_now first.space home.vol (waiting_at home kind group) (there_held first.space home.vol home.page is_held)

    pub held_but : (other : Home) → 1 ≤ other.vol → (IsHeld given other.vol other.page → IsHeld first.space other.vol other.page × ¬ other ≡ home) × (IsHeld first.space other.vol other.page × ¬ other ≡ home → IsHeld given other.vol other.page)
    held_but other from = (
      (λ held. (
        held_before (waiting_at home kind group) first.space home.vol other.vol other.page held,
        λ same. waits_not_held given home kind group waits_there (subst (λ (h : Home). IsHeld given h.vol h.page) same held),
      )),
      (λ is. still_held other from is.1 is.0),
    )

    pub waits_and : (vol : ℕ) (page : Waiting) → 1 ≤ vol → (Waits given vol page → Waits first.space vol page ⊎ ((vol ≡ home.vol) × (page ≡ waiting_at home kind group)))
        × (Waits first.space vol page ⊎ ((vol ≡ home.vol) × (page ≡ waiting_at home kind group)) → Waits given vol page)
    waits_and vol page from = (
      (λ waits. ⊎_elim
          (λ was. inl was)
          (λ this. inr (omega (arith, this.0, low, from), this.1))
          (waits_back (waiting_at home kind group) first.space home.vol vol page waits)),
      ⊎_elim
          (λ was. waits_more first.space home.vol (waiting_at home kind group) vol page was)
          (λ this. subst (λ (v : ℕ). Waits given v page) (sym this.0) (subst (Waits given home.vol) (sym this.1) waits_there)),
    )

module _ (first : Now) (home : Home) (kind : PageUse) (group : ℕ) (well : IsWell first) (is : StandsApart first home) where
  not_file : (a : CellAt) (p : ℕ) (other : Home) → place_in first.files a p ≡ At other → ¬ other ≡ home
  not_file a p other there same = is.nowhere a p (there ∙ ap At same)

  pub given_well : IsWell (with_waiting_page home kind group first)
  given_well = record {
    together = record {
      allocated = allocated_given kind group (home ∷ []) first.space first.cells first.pages
          (λ x inside. subst (λ (h : Home). 1 ≤ h.vol) (sym (only home x inside)) is.low)
          (λ x inside. (subst (IsHeldApart first.space first.cells) (sym (only home x inside)) is.apart).off_table)
          well.together.allocated;
      each = well.together.each;
      apart = well.together.apart;
      held = λ a p other there. kept first home kind group is.low other (low_home first.space first.cells first.pages first.files well.together a p other there) (not_file a p other there) (well.together.held a p other there);
      once = well.together.once;
      one_deep = well.together.one_deep;
    };
    listed = record {
      each = well.listed.each;
      once = well.listed.once;
      order = well.listed.order;
      pages_once = well.listed.pages_once;
      pages_low = well.listed.pages_low;
      pages_held = λ other inside. kept first home kind group is.low other (well.listed.pages_low other inside) (λ same. is.not_listed (subst (Contains first.list.tag_pages) same inside)) (well.listed.pages_held other inside);
      pages_apart = well.listed.pages_apart;
    };
  }

  module _ (fileset : ℕ) (places : List TagPlace) (chains : Chains) (together : AreTogether fileset places first.space first.cells first.pages chains) (among : AreAmong first places chains) (beside : has_home places home ≡ false) where
    -- a page of a tag's file is one of the domain's
    in_domain : (tag : Tag) (p : ℕ) (other : Home) → place_at chains tag p ≡ At other → (a : CellAt) × (place_in first.files a p ≡ At other)
    in_domain tag p other there = by_start (option_and_then start_of (chains tag)) refl
      where
        by_start : (o : Option CellAt) → option_and_then start_of (chains tag) ≡ o → (a : CellAt) × (place_in first.files a p ≡ At other)
        by_start None none = absurd (
            let gone : None ≡ chains tag = sym (ap (option_and_then first.files) none) ∙ among.same tag in
            let at : Absent ≡ At other = ap (λ o. option_map_or (λ cs. places_of cs p) o Absent) gone ∙ there in
            cc)
        by_start (Some a) some = (a, ap (λ o. option_map_or (λ cs. places_of cs p) o Absent) (sym (ap (option_and_then first.files) some) ∙ among.same tag) ∙ there)

    pub given_together : AreTogether fileset places (with_waiting_page home kind group first).space first.cells first.pages chains
    given_together = record {
      files = together.files;
      allocated = given_well.together.allocated;
      on_tables = together.on_tables;
      tag_pages = λ other has. kept first home kind group is.low other (among.low other has) (λ same. both_ways (has_home places home) beside (ap (has_home places) (sym same) ∙ has)) (together.tag_pages other has);
      file_pages = λ tag p other there.
          let d = in_domain tag p other there in
          let was = together.file_pages tag p other there in
          record {
            apart = kept first home kind group is.low other (low_home first.space first.cells first.pages first.files well.together d.0 p other d.1) (not_file d.0 p other d.1) was.apart;
            no_tags = was.no_tags;
          };
      once = together.once;
    }

    pub given_among : AreAmong (with_waiting_page home kind group first) places chains
    given_among = record { same = among.same; live = among.live; trimmed = among.trimmed; low = among.low; no_tags = among.no_tags; not_listed = among.not_listed }
