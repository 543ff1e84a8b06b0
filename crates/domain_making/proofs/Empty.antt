-- An image with the label, the anchor and the pages of a new domain is that of an empty domain.
use Rattle.std.proofs.Common.{◌≡◌, ◌∙◌, ◌⊎◌, inl, inr, ℕ, zero, suc, ◌+◌, ◌*◌, ◌%◌, ◌^◌, ◌<◌, ◌≤◌, cond, nat_eq, List, [], Some, length, take, slice_index, refl, sym, ap, subst, arith, ⊎_elim}
use Rattle.std.proofs.lemmas.List.{get_or-take, length-take-le}
use Rattle.std.specs.FinMap.{empty}
use Rattle.domain_layout.specs.domain_base.Version.{bitmap_pages, most_pages, number_of}
use Rattle.domain_layout.specs.domain_base.declared.version.Version.{Version}
use Rattle.domain_layout.specs.domain_base.declared.version.Version.TheVariants.{Three, Four}
use Rattle.domain_layout.specs.volume_disk.Disk.{volume_pages}
use Rattle.domain_layout.specs.volume_disk.Image.{Image, page_at}
use Rattle.domain_layout.proofs.OfVolumeDisk.Bytes.{get_or-bytes_from}
use Rattle.domain_layout.specs.disk_label.Anchor.{IsAnchor}
use Rattle.domain_layout.specs.disk_label.Body.{no_member, word_at}
use Rattle.domain_layout.specs.disk_label.FirstPages.{first_pages}
use Rattle.domain_layout.specs.disk_label.Label.{IsLabel, label_block, label_bytes}
use Rattle.domain_layout.proofs.OfDiskLabel.Bodies.{IsLabelOf-label_bytes, number_of-cases}
use Rattle.domain_layout.specs.log_ring.Groups.{HasLog, pages_in}
use Rattle.domain_layout.specs.log_ring.Homes.{IsMember, member_of}
use Rattle.domain_layout.specs.log_ring.Ring.{IsGateOpen}
use Rattle.domain_layout.proofs.OfLogRing.HomePages.{bytes_there}
use Rattle.domain_layout.specs.log_recovery.Members.{IsLabelled, label_version}
use Rattle.domain_layout.specs.log_recovery.Outcome.{HasGoodAnchor}
use Rattle.domain_layout.specs.log_recovery.Range.{IsInRange, IsSized}
use Rattle.domain_layout.proofs.OfLogRecovery.OneOutcome.{has_no_fault}
use Rattle.domain_layout.specs.Read.{Means, ReadsFrom}
use Rattle.domain_layout.specs.NewDomain.{IsNew, IsNewAnchor, IsNewBitmap, IsNewCells, IsNewTablePage, on_first}
use Rattle.domain_layout.proofs.NewDomain.{no_fault, reads_none}
use Rattle.domain_making.specs.Making.{IsEmptyDomain, new_anchor, new_frame}
use Rattle.domain_making.specs.Pages.{AreNew}
use Rattle.domain_making.specs.Written.{HasNewLabel, HasNewPages}
use Rattle.domain_making.specs.declared.pages.NewPages.{NewPages}
use Rattle.domain_making.proofs.NewBits.{bits_are, bits_length}
use Rattle.domain_making.proofs.Regions.{length-label}

-- ---- the only member

only_state : (version : Version) (pages vol : ℕ) → 1 ≤ vol → vol ≤ 8 → (vol ≡ 1) ⊎ (member_of (new_anchor version pages) vol ≡ no_member)
only_state version pages zero low high = absurd (omega (arith, low))
only_state version pages (suc zero) low high = inl refl
only_state version pages (suc (suc zero)) low high = inr refl
only_state version pages (suc (suc (suc zero))) low high = inr refl
only_state version pages (suc (suc (suc (suc zero)))) low high = inr refl
only_state version pages (suc (suc (suc (suc (suc zero))))) low high = inr refl
only_state version pages (suc (suc (suc (suc (suc (suc zero)))))) low high = inr refl
only_state version pages (suc (suc (suc (suc (suc (suc (suc zero))))))) low high = inr refl
only_state version pages (suc (suc (suc (suc (suc (suc (suc (suc zero)))))))) low high = inr refl
only_state version pages (suc (suc (suc (suc (suc (suc (suc (suc (suc vol))))))))) low high = absurd (omega (arith, high))

only_member : (version : Version) (pages vol : ℕ) → IsMember (new_anchor version pages) vol → vol ≡ 1
only_member version pages vol member =
    ⊎_elim (λ same. same) (λ none. let e : (member_of (new_anchor version pages) vol).state ≡ 0 = ap (λ m. m.state) none in absurd (omega (arith, member.there, e)))
    (only_state version pages vol member.first member.last)

first_member : (version : Version) (pages : ℕ) → IsMember (new_anchor version pages) 1
first_member version pages = record { first = omega arith; last = omega arith; there = omega arith; whole = omega arith }

some_bitmap : (version : Version) (pages : ℕ) → 1 ≤ pages → pages ≤ most_pages version → (1 ≤ bitmap_pages version pages) × (bitmap_pages version pages ≤ 16)
some_bitmap Three pages some most = (omega arith, omega arith)
some_bitmap Four pages some most = (omega (arith, some), omega (arith, most))

small : (version : Version) (pages : ℕ) → pages ≤ most_pages version → pages < 2 ^ 32
small Three pages most = omega (arith, most)
small Four pages most = omega (arith, most)

is_three : (version : Version) → number_of version ≡ 3 → version ≡ Three
is_three Three same = refl
is_three Four same = absurd (omega (arith, same))

-- what the number in a label says
said_version : (word : ℕ) (version : Version) → word ≡ number_of version → cond (nat_eq word 3) Three Four ≡ version
said_version word Three is = ap (λ w. cond (nat_eq w 3) Three Four) is
said_version word Four is = ap (λ w. cond (nat_eq w 3) Three Four) is

-- ---- the anchor's ranges

module _ (version : Version) (pages : ℕ) (room : (first_pages version pages).table < pages) (most : pages ≤ most_pages version) where
  first_sized : IsSized version (new_anchor version pages) 1
  first_sized = record { state = omega arith; least = λ member. omega (arith, room); most = λ member. most }

  sized : (versions : ℕ → Version) → versions 1 ≡ version → (vol : ℕ) → 1 ≤ vol → vol < 9 → IsSized (versions vol) (new_anchor version pages) vol
  sized versions first vol low high =
      ⊎_elim (λ same. subst (λ v. IsSized (versions v) (new_anchor version pages) v) (sym same) (subst (λ v. IsSized v (new_anchor version pages) 1) (sym first) first_sized))
      (λ none.
      let e : (member_of (new_anchor version pages) vol).state ≡ 0 = ap (λ m. m.state) none in
      record {
        state = omega (arith, e);
        least = λ member. absurd (omega (arith, e, member.there));
        most = λ member. absurd (omega (arith, e, member.there));
      })
      (only_state version pages vol low (omega (arith, high)))

  in_range : (versions : ℕ → Version) → versions 1 ≡ version → IsInRange versions (new_anchor version pages)
  in_range versions first = record {
    whole = record {
      version = number_of-cases version;
      volume = (omega arith, omega arith);
      slot = omega arith;
      member = (omega arith, omega arith);
      table = refl;
    };
    numbers = record { first = omega arith; number = omega arith; group = omega arith; start = omega arith; pages = refl };
    sized = λ vol low high. sized versions first vol low high;
    log = record {
      within = omega (arith, room);
      behind = let e = ap (λ v. bitmap_pages v pages) first in omega (arith, e);
    };
    table = (first_member version pages, room);
  }

  pub new_anchor_is : IsNewAnchor (new_frame version pages)
  new_anchor_is = record {
    member = first_member version pages;
    alone = λ vol member. only_member version pages vol member;
    log_volume = refl;
    log = refl;
    table = refl;
    room = room;
  }

  -- ---- an image with them

  module _ (sizes : List ℕ) (there : pages ≤ volume_pages sizes 1) (new : NewPages) (are : AreNew version pages new) (image : Image) (label : HasNewLabel version pages image) (has : HasNewPages (first_pages version pages) new image) where
    -- ---- its label

    label_is : label_block image 1 ≡ take 512 (label_bytes 1 pages version)
    label_is =
        let long = length-label pages version in
        bytes_there 1 (8192 * 0) 512 (take 512 (label_bytes 1 pages version)) image (length-take-le 512 (label_bytes 1 pages version) (omega (arith, long)))
        (λ k within. let size = length-take-le 512 (label_bytes 1 pages version) (omega (arith, long)) in
        label k (omega (arith, within, size, long)) ∙ sym (get_or-take 512 (label_bytes 1 pages version) k 0 (omega (arith, within, size))))

    says_label : IsLabel (volume_pages sizes 1) 1 (record { pages = pages; version = version }) (label_block image 1)
    says_label =
        subst (IsLabel (volume_pages sizes 1) 1 (record { pages = pages; version = version })) (sym label_is)
        (IsLabelOf-label_bytes (volume_pages sizes 1) 1 (record { pages = pages; version = version }) (omega arith) (small version pages most) there)

    says_version : label_version image 1 ≡ version
    says_version = said_version (word_at (label_block image 1) 2) version says_label.version

    labelled : IsLabelled sizes image (new_anchor version pages) 1
    labelled = record {
      there = omega (arith, room, there);
      label = subst (λ v. IsLabel (volume_pages sizes 1) 1 (record { pages = pages; version = v }) (label_block image 1)) (sym says_version) says_label;
      version = λ three. says_version ∙ is_three version three;
    }

    -- ---- its pages

    cells_at : IsNewCells (new_frame version pages) (page_at image 1 (first_pages version pages).cells)
    cells_at = subst (IsNewCells (new_frame version pages)) (sym has.cells) are.cells

    table_at : IsNewTablePage (page_at image 1 (first_pages version pages).table)
    table_at = subst IsNewTablePage (sym has.table) are.table

    long_bits : (number : ℕ) → number < bitmap_pages version pages → 65536 * number + 65536 ≤ 8 * length has.bits
    long_bits number within =
        let size = bits_length version pages (first_pages version pages).table new.bitmap has.bits are.bitmap has.shows (omega (arith, room)) most in
        omega (arith, size, within)

    bitmap_at : (number : ℕ) → number < bitmap_pages version pages → IsNewBitmap (new_frame version pages) number (page_at image 1 (2 + number))
    bitmap_at number within = record {
      bits = bits_are has.bits (page_at image 1 (2 + number)) number part pages (first_pages version pages).table new.bitmap are.bitmap has.shows (long_bits number within);
    }
      where
        part : (k : ℕ) → k < 8192 → slice_index (page_at image 1 (2 + number)) k ≡ slice_index has.bits (8192 * number + k)
        part k less =
            let at : 8192 * (2 + number) + k ≡ 8192 * 2 + (8192 * number + k) = omega arith in
            let size = long_bits number within in
            get_or-bytes_from (image 1) (8192 * (2 + number)) 8192 k 0 less ∙ ap (image 1) at ∙ has.bitmap (8192 * number + k) (omega (arith, less, size))

    is_new : IsNew (pages_in image) (new_frame version pages)
    is_new = record {
      anchor = new_anchor_is;
      cells = cells_at;
      bitmap = λ number within. bitmap_at number within;
      table = table_at;
    }

    -- ---- what it means

    module _ (is : IsAnchor sizes image (Some (new_anchor version pages))) where
      good : HasGoodAnchor sizes image (new_anchor version pages)
      good = record {
        anchor_is = is;
        labelled = λ vol member. subst (IsLabelled sizes image (new_anchor version pages)) (sym (only_member version pages vol member)) labelled;
        in_range = in_range (label_version image) says_version;
      }

      closed_gate : ¬ IsGateOpen image (new_anchor version pages) 0
      closed_gate is_open =
          let at : 8192 * ((first_pages version pages).log + 0 % 128) ≡ 8192 * (first_pages version pages).log = omega arith in
          has.gate (sym (ap (image 1) at) ∙ is_open)

      has_log : HasLog sizes (new_anchor version pages) [] image
      has_log = record { anchor_is = is; groups_are = closed_gate; fits = omega arith }

      reads_at : ReadsFrom (pages_in image) (on_first (first_pages version pages).table) empty
      reads_at = reads_none (pages_in image) (new_frame version pages) is_new

      means : Means sizes image empty
      means = record {
        anchor = new_anchor version pages;
        groups = [];
        version = version;
        log = has_log;
        is_version = refl;
        no_first = λ vol at. has_no_fault sizes image (new_anchor version pages) [] vol at good has_log;
        no_fault = no_fault (pages_in image) (new_frame version pages) is_new;
        reads = record {
          anchor = new_anchor version pages;
          groups = [];
          log = has_log;
          home = on_first (first_pages version pages).table;
          table = refl;
          reads = reads_at;
        };
      }

      pub empty_domain : IsEmptyDomain sizes (new_anchor version pages) image
      empty_domain = record { good = good; log = has_log; version = version; is_version = refl; label = says_version; fresh = is_new; means = means }
