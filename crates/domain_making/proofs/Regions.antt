-- Bytes that stay where others are written.
use Rattle.std.proofs.Common.{◌≡◌, ◌∙◌, ◌%◌, ◌-◌, ℕ, ◌+◌, ◌*◌, ◌<◌, ◌≤◌, List, [], ◌∷◌, length, length-append, replicate, slice_index, refl, sym, ap, subst, arith}
use Rattle.std.proofs.lemmas.List.{length-replicate}
use Rattle.std.specs.List.{flat_map}
use Rattle.byteorder.specs.Endian.{little_bytes}
use Rattle.domain_layout.specs.domain_base.Gate.{closed}
use Rattle.domain_layout.specs.domain_base.Version.{bitmap_pages, number_of}
use Rattle.domain_layout.specs.domain_base.declared.version.Version.{Version}
use Rattle.domain_layout.specs.free_space.Bits.{ShowsMap}
use Rattle.domain_layout.specs.volume_disk.Disk.{AreBlocks, Disk, HasVolume, Moment, Syncs, Writes, volume_pages}
use Rattle.domain_layout.specs.volume_disk.Image.{HasBytes, Image, IsIn, page_at}
use Rattle.domain_layout.specs.volume_disk.Run.{OnlyWrites}
use Rattle.domain_layout.proofs.OfVolumeDisk.Laws.{only_writes-wider}
use Rattle.domain_layout.proofs.OfLogRing.HomePages.{bytes_there}
use Rattle.domain_layout.specs.volume_disk.Gate.{IsOpenAt}
use Rattle.domain_layout.proofs.OfVolumeDisk.Bytes.{bytes_from-same}
use Rattle.domain_layout.specs.disk_label.Label.{label_bytes}
use Rattle.domain_layout.proofs.OfDiskLabel.Bodies.{length-written}
use Rattle.domain_layout.specs.disk_label.declared.first_pages.FirstPages.{FirstPages}
use Rattle.domain_making.specs.declared.pages.NewPages.{NewPages}
use Rattle.domain_making.specs.Written.{HasNewPages, IsOnPages}

-- the bytes that stand from a place on still do, in an image that is the same there
pub bytes_same : (at : ℕ) (bytes : List ℕ) (old new : Image) → ((k : ℕ) → at ≤ k → k < at + length bytes → new 1 k ≡ old 1 k) → HasBytes 1 at bytes old → HasBytes 1 at bytes new
bytes_same at bytes old new same has k within = same (at + k) (omega arith) (omega (arith, within)) ∙ has k within

pub page_same : (number : ℕ) (page : List ℕ) (old new : Image) → ((k : ℕ) → 8192 * number ≤ k → k < 8192 * number + 8192 → new 1 k ≡ old 1 k) → page_at old 1 number ≡ page → page_at new 1 number ≡ page
page_same number page old new same is = bytes_from-same (new 1) (old 1) (8192 * number) 8192 same ∙ is

pub gate_same : (at : ℕ) (old new : Image) → new 1 at ≡ old 1 at → ¬ IsOpenAt old 1 at → ¬ IsOpenAt new 1 at
gate_same at old new same closed is_open = closed (sym same ∙ is_open)

-- if images agree after the anchors, both have the new pages
pub pages_same : (firsts : FirstPages) (new : NewPages) (one other : Image) → 2 ≤ firsts.cells → 2 ≤ firsts.log → 2 ≤ firsts.table → ((k : ℕ) → 16384 ≤ k → other 1 k ≡ one 1 k)
    → HasNewPages firsts new one → HasNewPages firsts new other
pages_same firsts new one other cells log table same has = record {
  bits = has.bits;
  shows = has.shows;
  bitmap = bytes_same 16384 has.bits one other (λ k low high. same k low) has.bitmap;
  cells = page_same firsts.cells new.cells one other (λ k low high. same k (omega (arith, low, cells))) has.cells;
  gate = gate_same (8192 * firsts.log) one other (same (8192 * firsts.log) (omega (arith, log))) has.gate;
  table = page_same firsts.table new.table one other (λ k low high. same k (omega (arith, low, table))) has.table;
}

-- the page of a label has all its bytes
pub length-label : (pages : ℕ) (version : Version) → length (label_bytes 1 pages version) ≡ 8192
unfolding label_bytes
length-label pages version =
    let words = 0x46564441 ∷ 0x42414c53 ∷ number_of version ∷ 1 ∷ pages ∷ bitmap_pages version pages ∷ [] in
    length-append (flat_map (little_bytes 4) words) (replicate 8168 0) ∙ omega (arith, length-written words, length-replicate {A = ℕ} 8168 0)

-- ---- what is written from a page on

pub are_blocks : (disk : Disk) (firsts : FirstPages) (page n : ℕ) → HasVolume disk 1 → firsts.table < volume_pages disk.sizes 1 → 8192 * page + n ≤ 8192 * (firsts.table + 1) → n % 512 ≡ 0 → 0 < n → AreBlocks disk 1 (16 * page) n
are_blocks disk firsts page n there room high whole some = record { in_rack = there; whole = whole; some = some; within = omega (arith, room, high) }

pub on_pages : (old new : Disk) (firsts : FirstPages) (page n : ℕ) → 2 ≤ page → 8192 * page + n ≤ 8192 * (firsts.table + 1) → OnlyWrites old new (IsIn 1 (512 * (16 * page)) n) → OnlyWrites old new (IsOnPages firsts)
on_pages old new firsts page n low high writes =
    only_writes-wider old new (IsIn 1 (512 * (16 * page)) n) (IsOnPages firsts)
    (λ v k is_in. (is_in.0, omega (arith, is_in.1, low), omega (arith, is_in.2, high))) writes

-- the same bytes at the same page
pub written_as : (found firsts : FirstPages) (at : FirstPages → ℕ) → found ≡ firsts → (bytes page : List ℕ) → bytes ≡ page → (old new : Moment) → Writes 1 (8192 * at found) bytes old new → Writes 1 (8192 * at firsts) page old new
written_as found firsts at is bytes page same old new writes = subst (λ f. Writes 1 (8192 * at f) page old new) is (subst (λ b. Writes 1 (8192 * at found) b old new) same writes)

-- ---- the pages, one after the other

module _ (firsts : FirstPages) (new : NewPages) (bits : List ℕ) (shows : ShowsMap new.bitmap bits) (d0 d1 d2 d3 d4 d5 : Moment) (first : Writes 1 (8192 * 2) bits d0 d1) (second : Writes 1 (8192 * firsts.cells) new.cells d1 d2)
    (third : Writes 1 (8192 * firsts.log) closed d2 d3) (fourth : Writes 1 (8192 * firsts.table) new.table d3 d4) (last : Syncs 1 d4 d5) where
  -- what stands before the table is there in the end
  same_5 : (k : ℕ) → d5.contents 1 k ≡ d4.contents 1 k
  same_5 k = ap (λ (image : Image). image 1 k) last.contents

  module _ (cells_whole : length new.cells ≡ 8192) (table_whole : length new.table ≡ 8192) (closed_whole : length closed ≡ 512) (short : length bits ≤ 8192 * (firsts.cells - 2)) (some : 2 ≤ firsts.cells) (log : firsts.log ≡ firsts.cells + 1)
      (behind : firsts.log < firsts.table) where
    since_3 : (k : ℕ) → k < 8192 * firsts.table → d5.contents 1 k ≡ d3.contents 1 k
    since_3 k below = same_5 k ∙ fourth.tears.contents 1 k (λ is_in. omega (arith, is_in.1, below))

    since_2 : (k : ℕ) → k < 8192 * firsts.log → d5.contents 1 k ≡ d2.contents 1 k
    since_2 k below = since_3 k (omega (arith, below, behind)) ∙ third.tears.contents 1 k (λ is_in. omega (arith, is_in.1, below))

    since_1 : (k : ℕ) → k < 8192 * firsts.cells → d5.contents 1 k ≡ d1.contents 1 k
    since_1 k below = since_2 k (omega (arith, below, log)) ∙ second.tears.contents 1 k (λ is_in. omega (arith, is_in.1, below))

    gate_byte : slice_index closed 0 ≡ 0
    unfolding closed
    gate_byte = refl

    gate_closed : ¬ IsOpenAt d5.contents 1 (8192 * firsts.log)
    gate_closed is_open =
        let at : 8192 * firsts.log ≡ 8192 * firsts.log + 0 = omega arith in
        let byte : d5.contents 1 (8192 * firsts.log) ≡ 0 =
        since_3 (8192 * firsts.log) (omega (arith, behind)) ∙ ap (d3.contents 1) at ∙ third.written 0 (omega (arith, closed_whole)) ∙ gate_byte in
        omega (arith, byte, is_open)

    pub new_pages_there : HasNewPages firsts new d5.contents
    new_pages_there = record {
      bits = bits;
      shows = shows;
      bitmap = bytes_same (8192 * 2) bits d1.contents d5.contents (λ k low high. since_1 k (omega (arith, high, short, some))) first.written;
      cells = page_same firsts.cells new.cells d2.contents d5.contents (λ k low high. since_2 k (omega (arith, high, log)))
          (bytes_there 1 (8192 * firsts.cells) 8192 new.cells d2.contents cells_whole second.written);
      gate = gate_closed;
      table = page_same firsts.table new.table d4.contents d5.contents (λ k low high. same_5 k)
          (bytes_there 1 (8192 * firsts.table) 8192 new.table d4.contents table_whole fourth.written);
    }
