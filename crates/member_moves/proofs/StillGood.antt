-- Anchors that would be good still would be after a change of members, log, table or version.
use Rattle.std.proofs.Common.{◌≡◌, ◌≢◌, ℕ, ◌+◌, ◌-◌, ◌<◌, ◌≤◌, true, false, List, length, Option, Some, None, IsSomeAnd, refl, sym, ap, subst, ⊎_elim, inr, arith}
use Rattle.std.proofs.Math.Dec.{eqb}
use Rattle.std.proofs.lemmas.Bool.{cases_lt}
use Rattle.std.proofs.lemmas.Bool.Decides.{eqb_tells}
use Rattle.std.proofs.lemmas.List.{get_or_past, get_or-set_other, get_or-set_same}
use Rattle.log_recovery.specs.domain_base.Limits.{log_pages}
use Rattle.log_recovery.specs.domain_base.Version.{bitmap_pages, most_pages}
use Rattle.log_recovery.specs.domain_base.declared.place.Home.{Home}
use Rattle.log_recovery.specs.volume_disk.Disk.{volume_pages}
use Rattle.log_recovery.specs.volume_disk.Image.{Image}
use Rattle.log_recovery.specs.disk_label.Body.{no_member}
use Rattle.log_recovery.specs.disk_label.Label.{IsLabel, label_block}
use Rattle.log_recovery.specs.disk_label.declared.anchor.Anchor.{Anchor}
use Rattle.log_recovery.specs.disk_label.declared.anchor.Member.{Member}
use Rattle.log_recovery.specs.log_ring.Homes.{IsMember, member_of}
use Rattle.log_recovery.specs.Members.{IsLabelled, label_version}
use Rattle.log_recovery.specs.Range.{IsSized}
use Rattle.log_recovery.specs.Readable.{WouldBeGood}
use Rattle.log_recovery.proofs.GoodAnchors.{restarted_would}
use Rattle.member_moves.specs.Changes.{with_entry}
use Rattle.member_moves.specs.GoodChanges.{StaysGoodInState, StaysGoodJoined, StaysGoodRestarted, StaysGoodUpgraded, StaysGoodWithLog, StaysGoodWithTable, StaysGoodWithout, in_state}

-- an anchor has an entry for each of its members
has_entry : (anchor : Anchor) (vol : ℕ) → IsMember anchor vol → vol ≤ length anchor.members
has_entry anchor vol is =
    ⊎_elim (λ (beyond : length anchor.members < vol).
    let none : member_of anchor vol ≡ no_member = get_or_past anchor.members (vol - 1) no_member (omega (arith, beyond)) in
    let there : 1 ≤ no_member.state = subst (λ (m : Member). 1 ≤ m.state) none is.there in
    omega (arith, there))
    (λ (within : vol ≤ length anchor.members). within)
    (cases_lt (length anchor.members) vol)

-- the log of an anchor that would be good stands on a member
log_member : (sizes : List ℕ) (image : Image) (anchor : Anchor) → WouldBeGood sizes image anchor → IsMember anchor anchor.log_vol
log_member sizes image anchor was =
    let whole = was.in_range.whole in
    record { first = whole.volume.0; last = whole.volume.1; there = whole.member.0; whole = whole.member.1 }

module _ (anchor : Anchor) (vol : ℕ) (member : Member) (first : 1 ≤ vol) (there : vol ≤ length anchor.members) where
  abbrev new : Anchor
  new = with_entry vol member anchor

  entry : member_of new vol ≡ member
  entry = get_or-set_same anchor.members (vol - 1) member no_member (omega (arith, first, there))

  others : (v : ℕ) → 1 ≤ v → v ≢ vol → member_of new v ≡ member_of anchor v
  others v low other = get_or-set_other anchor.members (vol - 1) (v - 1) member no_member (λ e. other (omega (arith, e, low, first)))

  -- a member that stays one, with its pages
  record Kept (v : ℕ) : Type 0 where
    pub member_still : IsMember new v
    pub pages_still : (member_of new v).pages ≡ (member_of anchor v).pages

  other_kept : (v : ℕ) → IsMember anchor v → v ≢ vol → Kept v
  other_kept v is other =
      let same = others v is.first other in
      record {
        member_still = record { first = is.first; last = is.last; there = subst (λ (m : Member). 1 ≤ m.state) (sym same) is.there; whole = subst (λ (m : Member). m.state ≤ 2) (sym same) is.whole };
        pages_still = ap (λ (m : Member). m.pages) same;
      }

  other_member : (v : ℕ) → IsMember new v → v ≢ vol → IsMember anchor v
  other_member v is other =
      let same = others v is.first other in
      record { first = is.first; last = is.last; there = subst (λ (m : Member). 1 ≤ m.state) same is.there; whole = subst (λ (m : Member). m.state ≤ 2) same is.whole }

  -- a label that a member has to have is the same if its pages are
  label_still : (sizes : List ℕ) (image : Image) (v : ℕ) → (member_of new v).pages ≡ (member_of anchor v).pages → IsLabelled sizes image anchor v → IsLabelled sizes image new v
  label_still sizes image v same is =
      record {
        there = is.there;
        label = subst (λ n. IsLabel (volume_pages sizes v) v (record { pages = n; version = label_version image v }) (label_block image v)) (sym same) is.label;
        version = is.version;
      }

  kept_table : (o : Option Home) → ((home : Home) → o ≡ Some home → IsMember anchor home.vol → Kept home.vol)
      → IsSomeAnd o (λ (home : Home). IsMember anchor home.vol × (home.page < (member_of anchor home.vol).pages))
      → IsSomeAnd o (λ (home : Home). IsMember new home.vol × (home.page < (member_of new home.vol).pages))
  kept_table None each is = is
  kept_table (Some home) each is =
      let kept = each home refl is.0 in
      (kept.member_still, subst (λ n. home.page < n) (sym kept.pages_still) is.1)

  module _ (sizes : List ℕ) (image : Image) (was : WouldBeGood sizes image anchor)
      (labelled : IsMember new vol → IsLabelled sizes image new vol)
      (sized : IsSized (label_version image vol) new vol)
      (log : Kept anchor.log_vol)
      (table : (home : Home) → anchor.table ≡ Some home → IsMember anchor home.vol → Kept home.vol) where
    all_labelled : (v : ℕ) → IsMember new v → IsLabelled sizes image new v
    all_labelled v is =
        ⊎_elim (λ (same : (eqb v vol ≡ true) × (v ≡ vol)). subst (λ w. IsMember new w → IsLabelled sizes image new w) (sym same.1) labelled is)
        (λ (other : (eqb v vol ≡ false) × (v ≢ vol)). label_still sizes image v (ap (λ (m : Member). m.pages) (others v is.first other.1)) (was.labelled v (other_member v is other.1)))
        (eqb_tells v vol)

    other_sized : (v : ℕ) → 1 ≤ v → v < 9 → v ≢ vol → IsSized (label_version image v) new v
    other_sized v low high other =
        let is = was.in_range.sized v low high in
        let same = others v low other in
        record {
          state = subst (λ (m : Member). m.state ≤ 2) (sym same) is.state;
          least = λ member_is. subst (λ (m : Member). 64 ≤ m.pages) (sym same) (is.least (other_member v member_is other));
          most = λ member_is. subst (λ (m : Member). m.pages ≤ most_pages (label_version image v)) (sym same) (is.most (other_member v member_is other));
        }

    all_sized : (v : ℕ) → 1 ≤ v → v < 9 → IsSized (label_version image v) new v
    all_sized v low high =
        ⊎_elim (λ (same : (eqb v vol ≡ true) × (v ≡ vol)). subst (λ w. IsSized (label_version image w) new w) (sym same.1) sized)
        (λ (other : (eqb v vol ≡ false) × (v ≢ vol)). other_sized v low high other.1)
        (eqb_tells v vol)

    still_good : WouldBeGood sizes image new
    still_good =
        let range = was.in_range in
        let inside = range.log in
        record {
          labelled = all_labelled;
          in_range = record {
            whole = record { version = range.whole.version; volume = range.whole.volume; slot = range.whole.slot; member = (log.member_still.there, log.member_still.whole); table = range.whole.table };
            numbers = record { first = range.numbers.first; number = range.numbers.number; group = range.numbers.group; start = range.numbers.start; pages = range.numbers.pages };
            sized = all_sized;
            log = record {
              within = subst (λ n. anchor.log_page + log_pages ≤ n) (sym log.pages_still) inside.within;
              behind = subst (λ n. 2 + bitmap_pages (label_version image anchor.log_vol) n ≤ anchor.log_page) (sym log.pages_still) inside.behind;
            };
            table = kept_table anchor.table table range.table;
          };
        }

pub restarted_still : (sizes : List ℕ) (image : Image) (anchor : Anchor) (number slot start group : ℕ) → StaysGoodRestarted sizes image anchor number slot start group
restarted_still sizes image anchor number slot start group was some number_low slot_low start_low group_low =
    restarted_would anchor number slot start group some number_low slot_low start_low group_low sizes image was

pub joined_still : (sizes : List ℕ) (image : Image) (anchor : Anchor) (vol : ℕ) (member : Member) → StaysGoodJoined sizes image anchor vol member
joined_still sizes image anchor vol member was none may =
    still_good anchor vol member may.first there sizes image was
    (λ is. may.labelled)
    (record {
      state = subst (λ (m : Member). m.state ≤ 2) (sym is_entry) may.state.1;
      least = λ is. subst (λ (m : Member). 64 ≤ m.pages) (sym is_entry) may.least;
      most = λ is. subst (λ (m : Member). m.pages ≤ most_pages (label_version image vol)) (sym is_entry) may.most;
    })
    (kept anchor.log_vol (log_member sizes image anchor was))
    (λ home is member_there. kept home.vol member_there)
  where
    there : vol ≤ length anchor.members
    there = subst (λ n. vol ≤ n) (sym may.entries) may.last

    is_entry : member_of (with_entry vol member anchor) vol ≡ member
    is_entry = entry anchor vol member may.first there

    kept : (v : ℕ) → IsMember anchor v → Kept anchor vol member may.first there v
    kept v is = other_kept anchor vol member may.first there v is (λ same. none (subst (λ w. IsMember anchor w) same is))

module _ (sizes : List ℕ) (image : Image) (anchor : Anchor) (vol state : ℕ) (was : WouldBeGood sizes image anchor) (is : IsMember anchor vol) (low : state ≤ 2) where
  abbrev member : Member
  member = record (member_of anchor vol) { state = state }

  abbrev there : vol ≤ length anchor.members
  there = has_entry anchor vol is

  is_entry : member_of (in_state vol state anchor) vol ≡ member
  is_entry = entry anchor vol member is.first there

  pages_same : (member_of (in_state vol state anchor) vol).pages ≡ (member_of anchor vol).pages
  pages_same = ap (λ (m : Member). m.pages) is_entry

  state_sized : IsSized (label_version image vol) (in_state vol state anchor) vol
  state_sized =
      let sized = was.in_range.sized vol is.first (omega (arith, is.last)) in
      record {
        state = subst (λ (m : Member). m.state ≤ 2) (sym is_entry) low;
        least = λ still. subst (λ n. 64 ≤ n) (sym pages_same) (sized.least is);
        most = λ still. subst (λ n. n ≤ most_pages (label_version image vol)) (sym pages_same) (sized.most is);
      }

  state_labelled : IsLabelled sizes image (in_state vol state anchor) vol
  state_labelled = label_still anchor vol member is.first there sizes image vol pages_same (was.labelled vol is)

  other : (v : ℕ) → IsMember anchor v → v ≢ vol → Kept anchor vol member is.first there v
  other = other_kept anchor vol member is.first there

  -- the member itself stays one unless its state is 0
  itself : 1 ≤ state → Kept anchor vol member is.first there vol
  itself some = record {
    member_still = record { first = is.first; last = is.last; there = subst (λ (m : Member). 1 ≤ m.state) (sym is_entry) some; whole = subst (λ (m : Member). m.state ≤ 2) (sym is_entry) low };
    pages_still = pages_same;
  }

  each : 1 ≤ state → (v : ℕ) → IsMember anchor v → Kept anchor vol member is.first there v
  each some v member_is =
      ⊎_elim (λ (same : (eqb v vol ≡ true) × (v ≡ vol)). subst (λ w. Kept anchor vol member is.first there w) (sym same.1) (itself some))
      (λ (differs : (eqb v vol ≡ false) × (v ≢ vol)). other v member_is differs.1)
      (eqb_tells v vol)

pub in_state_still : (sizes : List ℕ) (image : Image) (anchor : Anchor) (vol state : ℕ) → StaysGoodInState sizes image anchor vol state
in_state_still sizes image anchor vol state was is some low =
    still_good anchor vol (member sizes image anchor vol state was is low) is.first (has_entry anchor vol is) sizes image was
    (λ still. state_labelled sizes image anchor vol state was is low)
    (state_sized sizes image anchor vol state was is low)
    (each sizes image anchor vol state was is low some anchor.log_vol (log_member sizes image anchor was))
    (λ home named member_there. each sizes image anchor vol state was is low some home.vol member_there)

pub without_still : (sizes : List ℕ) (image : Image) (anchor : Anchor) (vol : ℕ) → StaysGoodWithout sizes image anchor vol
without_still sizes image anchor vol was is no_log no_table =
    still_good anchor vol (member sizes image anchor vol 0 was is (omega arith)) is.first (has_entry anchor vol is) sizes image was
    (λ still. state_labelled sizes image anchor vol 0 was is (omega arith))
    (state_sized sizes image anchor vol 0 was is (omega arith))
    (other sizes image anchor vol 0 was is (omega arith) anchor.log_vol (log_member sizes image anchor was) no_log)
    (λ home named member_there. other sizes image anchor vol 0 was is (omega arith) home.vol member_there
    (λ same. no_table (subst (λ (o : Option Home). IsSomeAnd o (λ (h : Home). h.vol ≡ vol)) (sym named) same)))

-- The members stay as they are.

module _ (sizes : List ℕ) (image : Image) (anchor : Anchor) (was : WouldBeGood sizes image anchor) where
  pub with_log_still : (vol first : ℕ) → StaysGoodWithLog sizes image anchor vol first
  with_log_still vol first again is inside =
      let range = was.in_range in
      record {
        labelled = λ v member. let here = was.labelled v (record { first = member.first; last = member.last; there = member.there; whole = member.whole }) in record { there = here.there; label = here.label; version = here.version };
        in_range = record {
          whole = record { version = range.whole.version; volume = (is.first, is.last); slot = range.whole.slot; member = (is.there, is.whole); table = range.whole.table };
          numbers = record { first = range.numbers.first; number = range.numbers.number; group = range.numbers.group; start = range.numbers.start; pages = range.numbers.pages };
          sized = λ v low high. let sized = range.sized v low high in record { state = sized.state; least = λ m. sized.least (record { first = m.first; last = m.last; there = m.there; whole = m.whole }); most = λ m. sized.most (record { first = m.first; last = m.last; there = m.there; whole = m.whole }) };
          log = inside;
          table = table anchor.table range.table;
        };
      }
    where
      table : (o : Option Home) → IsSomeAnd o (λ (home : Home). IsMember anchor home.vol × (home.page < (member_of anchor home.vol).pages))
          → IsSomeAnd o (λ (home : Home). IsMember (record anchor { log_vol = vol; log_page = first }) home.vol × (home.page < (member_of anchor home.vol).pages))
      table None at = at
      table (Some home) at = (record { first = at.0.first; last = at.0.last; there = at.0.there; whole = at.0.whole }, at.1)

  pub with_table_still : (home : Home) → StaysGoodWithTable sizes image anchor home
  with_table_still home again is within =
      let range = was.in_range in
      record {
        labelled = λ v member. let here = was.labelled v (record { first = member.first; last = member.last; there = member.there; whole = member.whole }) in record { there = here.there; label = here.label; version = here.version };
        in_range = record {
          whole = record { version = range.whole.version; volume = range.whole.volume; slot = range.whole.slot; member = range.whole.member; table = refl };
          numbers = record { first = range.numbers.first; number = range.numbers.number; group = range.numbers.group; start = range.numbers.start; pages = range.numbers.pages };
          sized = λ v low high. let sized = range.sized v low high in record { state = sized.state; least = λ m. sized.least (record { first = m.first; last = m.last; there = m.there; whole = m.whole }); most = λ m. sized.most (record { first = m.first; last = m.last; there = m.there; whole = m.whole }) };
          log = record { within = range.log.within; behind = range.log.behind };
          table = (record { first = is.first; last = is.last; there = is.there; whole = is.whole }, within);
        };
      }

  pub upgraded_still : StaysGoodUpgraded sizes image anchor
  upgraded_still again =
      let range = was.in_range in
      record {
        labelled = λ v member. let here = was.labelled v (record { first = member.first; last = member.last; there = member.there; whole = member.whole }) in record { there = here.there; label = here.label; version = λ three. absurd (omega (arith, three)) };
        in_range = record {
          whole = record { version = inr refl; volume = range.whole.volume; slot = range.whole.slot; member = range.whole.member; table = range.whole.table };
          numbers = record { first = range.numbers.first; number = range.numbers.number; group = range.numbers.group; start = range.numbers.start; pages = range.numbers.pages };
          sized = λ v low high. let sized = range.sized v low high in record { state = sized.state; least = λ m. sized.least (record { first = m.first; last = m.last; there = m.there; whole = m.whole }); most = λ m. sized.most (record { first = m.first; last = m.last; there = m.there; whole = m.whole }) };
          log = record { within = range.log.within; behind = range.log.behind };
          table = table anchor.table range.table;
        };
      }
    where
      table : (o : Option Home) → IsSomeAnd o (λ (home : Home). IsMember anchor home.vol × (home.page < (member_of anchor home.vol).pages))
          → IsSomeAnd o (λ (home : Home). IsMember (record anchor { version = 4 }) home.vol × (home.page < (member_of anchor home.vol).pages))
      table None at = at
      table (Some home) at = (record { first = at.0.first; last = at.0.last; there = at.0.there; whole = at.0.whole }, at.1)
