-- What is read of a slot, and which anchor is the greatest.
use Rattle.std.proofs.Common.{◌≡◌, ℕ, zero, suc, ◌+◌, ◌-◌, ◌*◌, ◌%◌, ◌<◌, ◌≤◌, List, length, Option, Some, None, true, false, nat_le, refl, sym, ◌∙◌, ap, subst, inl, inr, arith}
use Rattle.std.proofs.lemmas.Bool.{cases_lt, cases_order, le-leb, lt-leb}
use Rattle.std.proofs.lemmas.List.{get_or_past}
use Rattle.volume_disk.specs.Disk.{Moment, volume_pages}
use Rattle.volume_disk.specs.Image.{Image, bytes_at}
use Rattle.disk_label.specs.Anchor.{volume_of, gate_of, anchor_at, Counts, StandsAt, IsGreatest, IsAnchorBelow, greater_of}
use Rattle.disk_label.specs.Body.{anchor_from, HasLogMember}
use Rattle.disk_label.specs.declared.anchor.Anchor.{Anchor}

module _ (vol slot : ℕ) (low : 1 ≤ vol) (high : slot ≤ 1) where
  abbrev place : ℕ
  place = 2 * (vol - 1) + slot

  pub volume_is : volume_of place ≡ vol
  volume_is = omega arith

  pub slot_is : place % 2 ≡ slot
  slot_is = omega arith

  pub gate_is : gate_of place ≡ 8192 + 4096 * slot
  gate_is = omega arith

  -- its byte
  pub gate_at : (image : Image) → image (volume_of place) (gate_of place) ≡ image vol (8192 + 4096 * slot)
  gate_at image = ap (λ (v : ℕ). image v (gate_of place)) volume_is ∙ ap (image vol) gate_is

  -- the anchor that a read of the block after it shows
  pub anchor_read : (image : Image) (block : List ℕ) (at : ℕ) → at ≡ 8192 + 4096 * slot + 512 → block ≡ bytes_at image vol at 512 → anchor_at image place ≡ anchor_from block slot
  anchor_read image block at is read =
      let start : gate_of place + 512 ≡ at = omega arith in
      ap (λ (v : ℕ). anchor_from (bytes_at image v (gate_of place + 512) 512) (place % 2)) volume_is
      ∙ ap (λ (k : ℕ). anchor_from (bytes_at image vol k 512) (place % 2)) start
      ∙ ap (λ (l : List ℕ). anchor_from l (place % 2)) (sym read)
      ∙ ap (anchor_from block) slot_is

-- what counts in one image counts in another with the same gate and anchor there
pub Counts-same : (sizes : List ℕ) (b image : Image) (q : ℕ) → image (volume_of q) (gate_of q) ≡ b (volume_of q) (gate_of q) → anchor_at image q ≡ anchor_at b q → Counts sizes b q → Counts sizes image q
Counts-same sizes b image q gate anchor counts = record {
  there = counts.there;
  is_open = gate ∙ counts.is_open;
  names = (λ i. (anchor i).log_vol) ∙ counts.names;
  member = subst HasLogMember (sym anchor) counts.member;
}

-- Which is the greatest.

-- where each slot that counts is one of before, and that of the anchor still counts, it stays the greatest
pub IsAnchorBelow-kept : (n : ℕ) (sizes : List ℕ) (b image : Image) (anchor : Option Anchor) → ((q : ℕ) → Counts sizes image q → Counts sizes b q × (anchor_at image q ≡ anchor_at b q))
    → ((q : ℕ) → Counts sizes b q → anchor ≡ Some (anchor_at b q) → Counts sizes image q × (anchor_at image q ≡ anchor_at b q)) → IsAnchorBelow n sizes b anchor → IsAnchorBelow n sizes image anchor
IsAnchorBelow-kept n sizes b image None before after none = λ q lt counts. none q lt (before q counts).0
IsAnchorBelow-kept n sizes b image (Some anchor) before after was = record {
  place = was.place;
  below = was.below;
  counts = own.0;
  is = own.1 ∙ was.is;
  greatest = λ q lt counts. let same = before q counts in subst (λ (a : Anchor). a.number ≤ anchor.number) (sym same.1) (was.greatest q lt same.0);
  first = λ q lt counts. let same = before q counts in subst (λ (a : Anchor). a.number < anchor.number) (sym same.1) (was.first q lt same.0);
}
  where
    own : Counts sizes image was.place × (anchor_at image was.place ≡ anchor_at b was.place)
    own = after was.place was.counts (λ i. Some (sym was.is i))

none_more : (n : ℕ) (sizes : List ℕ) (image : Image) (best : Option Anchor) → IsAnchorBelow n sizes image best → ¬ Counts sizes image n → IsAnchorBelow (n + 1) sizes image best
none_more n sizes image None below none = λ p lt counts. elim (cases_lt p n) [
  | inl before ↦ below p before counts
  | inr le ↦ let is : p ≡ n = omega arith in none (subst (Counts sizes image) is counts)
]
none_more n sizes image (Some best) below none = record {
  place = below.place;
  below = let lt = below.below in omega arith;
  counts = below.counts;
  is = below.is;
  greatest = λ p lt counts. elim (cases_lt p n) [
    | inl before ↦ below.greatest p before counts
    | inr le ↦ let is : p ≡ n = omega arith in absurd (none (subst (Counts sizes image) is counts))
  ];
  first = below.first;
}

found_more : (n : ℕ) (sizes : List ℕ) (image : Image) (found : Anchor) → Counts sizes image n → anchor_at image n ≡ found → ((p : ℕ) → p < n → Counts sizes image p → (anchor_at image p).number < found.number) → IsGreatest (n + 1) sizes image found
found_more n sizes image found counts is less = record {
  place = n;
  below = omega arith;
  counts = counts;
  is = is;
  greatest = λ p lt there. elim (cases_lt p n) [
    | inl before ↦ let h = less p before there in omega arith
    | inr le ↦
        let same : p ≡ n = omega arith in
        let number : (anchor_at image p).number ≡ found.number = ap (λ (q : ℕ). (anchor_at image q).number) same ∙ (λ i. (is i).number) in
        omega arith
  ];
  first = less;
}

pub greater-more : (n : ℕ) (sizes : List ℕ) (image : Image) (best found : Option Anchor) → IsAnchorBelow n sizes image best → StandsAt sizes image n found → IsAnchorBelow (n + 1) sizes image (greater_of best found)
greater-more n sizes image best None below none = none_more n sizes image best below none
greater-more n sizes image None (Some found) below here = found_more n sizes image found here.0 here.1 (λ p lt counts. absurd (below p lt counts))
greater-more n sizes image (Some best) (Some found) below here = elim (cases_lt best.number found.number) [
  | inl less ↦
      let test : nat_le found.number best.number ≡ false = lt-leb found.number best.number less in
      rw test (found_more n sizes image found here.0 here.1 (λ p lt counts. let h = below.greatest p lt counts in omega arith))
  | inr le ↦
      let test : nat_le found.number best.number ≡ true = le-leb found.number best.number le in
      rw test (record {
        place = below.place;
        below = let lt = below.below in omega arith;
        counts = below.counts;
        is = below.is;
        greatest = λ p lt there. elim (cases_lt p n) [
          | inl before ↦ below.greatest p before there
          | inr ge ↦
              let same : p ≡ n = omega arith in
              let number : (anchor_at image p).number ≡ found.number = ap (λ (q : ℕ). (anchor_at image q).number) same ∙ (λ i. (here.1 i).number) in
              omega arith
        ];
        first = below.first;
      })
]

-- a volume without a second page has no anchor
pub none_there : (sizes : List ℕ) (image : Image) (n : ℕ) → volume_pages sizes (volume_of n) < 2 → StandsAt sizes image n None
none_there sizes image n few counts = let there = counts.there in omega arith

-- a volume with a second page is one of the rack
pub pages_there : (sizes : List ℕ) (vol : ℕ) → 2 ≤ volume_pages sizes vol → (1 ≤ vol) × (vol ≤ length sizes)
pages_there sizes zero some = absurd (omega arith)
pages_there sizes (suc v) some = (omega arith, elim (cases_lt v (length sizes)) [ inl lt ↦ omega arith | inr le ↦ let none = get_or_past sizes v 0 le in absurd (omega (arith, none)) ])

-- the anchor in the contents of a moment that is the same
pub IsAnchorBelow-same : (n : ℕ) (sizes others : List ℕ) (one other : Moment) (anchor : Option Anchor) → others ≡ sizes → other ≡ one → IsAnchorBelow n sizes one.contents anchor → IsAnchorBelow n others other.contents anchor
IsAnchorBelow-same n sizes others one other anchor same now below =
    subst (λ (l : List ℕ). IsAnchorBelow n l other.contents anchor) (sym same) (subst (λ (m : Moment). IsAnchorBelow n sizes m.contents anchor) (sym now) below)

-- an image has one anchor, or none
pub IsAnchorBelow-unique : (n : ℕ) (sizes : List ℕ) (image : Image) (one other : Option Anchor) → IsAnchorBelow n sizes image one → IsAnchorBelow n sizes image other → one ≡ other
IsAnchorBelow-unique n sizes image None None a b = refl
IsAnchorBelow-unique n sizes image None (Some other) a b = absurd (a b.place b.below b.counts)
IsAnchorBelow-unique n sizes image (Some one) None a b = absurd (b a.place a.below a.counts)
IsAnchorBelow-unique n sizes image (Some one) (Some other) a b =
    let first : (anchor_at image a.place).number ≡ one.number = λ i. (a.is i).number in
    let second : (anchor_at image b.place).number ≡ other.number = λ i. (b.is i).number in
    let at_least = a.greatest b.place b.below b.counts in
    let at_most = b.greatest a.place a.below a.counts in
    elim (cases_order a.place b.place) [
      | inl is ↦ λ i. Some ((sym a.is ∙ ap (anchor_at image) is ∙ b.is) i)
      | inr unlike ↦ elim unlike [ inl lt ↦ (let less = b.first a.place lt a.counts in absurd (omega arith)) | inr lt ↦ (let less = a.first b.place lt b.counts in absurd (omega arith)) ]
    ]
