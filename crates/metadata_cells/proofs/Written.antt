-- A cell as it is written.
use Rattle.std.proofs.Common.{◌≡◌, ℕ, zero, suc, ◌+◌, ◌-◌, ◌<◌, ◌≤◌, List, [], ◌∷◌, ◌++◌, length, take, drop, get_or, refl, sym, ap, subst, ◌∙◌, arith, length-append, length-drop, length-take}
use Rattle.std.proofs.lemmas.List.{append-nil, take_at, take_all, drop_at, drop_all, drop-drop, take-append-drop}
use Rattle.std.proofs.Math.Seq.{take-suc}
use Rattle.std.proofs.Common.{replicate}
use borrow.Rule.Slice.PartMut.{put_mid, post_of}
use Rattle.page_store.specs.domain_base.Page.{zero_bytes, length-zero_bytes}
use Rattle.cell_records.specs.declared.rule.Rule.{Rule}
use Rattle.cell_records.specs.declared.rule.Rule.TheVariants.{Any}
use Rattle.cell_records.specs.declared.record.Record.{Record}
use Rattle.cell_records.specs.Records.{spelled, spelling}
use Rattle.cell_records.specs.Rules.{nothing_seen}
use Rattle.cell_records.specs.Fields.{Fit, number_at}
use Rattle.cell_records.proofs.Scan.{Passes, decoded, decoded_again}
use Rattle.cell_records.proofs.Spelling.{length-spelled, overwritten as over}
use Rattle.metadata_cells.specs.declared.head.CellHead.{CellHead}
use Rattle.metadata_cells.specs.Cell.{AreRecords, HasHead, IsAddress, IsCell, IsFileset, kind_number, spellings}
use Rattle.metadata_cells.proofs.Spellings.{spellings-append, spellings-push}

abbrev pub any_of : List ℕ → List Rule
any_of [] = []
any_of (w ∷ ws) = Any ∷ any_of ws

pub pass_any : (ws ns : List ℕ) → Fit ws ns → Passes ws (any_of ws) nothing_seen ns
pass_any [] [] fit = tt
pass_any [] (n ∷ ns) fit = absurd fit
pass_any (w ∷ ws) [] fit = absurd fit
pass_any (w ∷ ws) (n ∷ ns) fit = (fit.1, refl, pass_any ws ns fit.2)

-- the widths of a cell's head
abbrev pub head_widths : List ℕ
head_widths = 2 ∷ 1 ∷ 1 ∷ 4 ∷ 4 ∷ 2 ∷ 1 ∷ 1 ∷ 2 ∷ 2 ∷ []

abbrev pub head_numbers : ℕ → ℕ → ℕ → ℕ → ℕ → ℕ → ℕ → ℕ → List ℕ
head_numbers vol cell page slot seq fileset kind size = 0 ∷ vol ∷ cell ∷ page ∷ slot ∷ seq ∷ fileset ∷ kind ∷ size ∷ 0 ∷ []

module _ (n1 n2 n3 n4 n5 n6 n7 n8 : ℕ) (rest out : List ℕ) (written : out ≡ spelled head_widths (head_numbers n1 n2 n3 n4 n5 n6 n7 n8) ++ rest)
    (fit : Fit head_widths (head_numbers n1 n2 n3 n4 n5 n6 n7 n8)) where
  back : decoded head_widths 0 out ≡ head_numbers n1 n2 n3 n4 n5 n6 n7 n8
  back = ap (decoded head_widths 0) written
      ∙ decoded_again head_widths (any_of head_widths) nothing_seen (head_numbers n1 n2 n3 n4 n5 n6 n7 n8) [] rest 0 (pass_any head_widths (head_numbers n1 n2 n3 n4 n5 n6 n7 n8) fit) refl

  at : (k : ℕ) → get_or (decoded head_widths 0 out) k 0 ≡ get_or (head_numbers n1 n2 n3 n4 n5 n6 n7 n8) k 0
  at k = ap (λ ns. get_or ns k 0) back

  module _ (vol cell page fileset : ℕ) (head : CellHead) where
    pub head_is : n1 ≡ vol → n2 ≡ cell → n3 ≡ page → n4 ≡ head.slot → n5 ≡ head.seq → n6 ≡ fileset → n7 ≡ kind_number head.kind → IsAddress vol cell page head.next → IsFileset fileset head.fileset
        → n8 ≤ 272 → HasHead out head n8
    head_is of_vol of_cell of_page of_slot of_seq of_number of_kind address of_fileset fits = record {
      zero = at 0;
      next = subst (λ v. IsAddress v (number_at 1 3 out) (number_at 4 4 out) head.next) (sym (at 1 ∙ of_vol))
          (subst (λ c. IsAddress vol c (number_at 4 4 out) head.next) (sym (at 2 ∙ of_cell)) (subst (λ p. IsAddress vol cell p head.next) (sym (at 3 ∙ of_page)) address));
      slot = sym (at 4 ∙ of_slot);
      seq = sym (at 5 ∙ of_seq);
      fileset = subst (λ f. IsFileset f head.fileset) (sym (at 6 ∙ of_number)) of_fileset;
      kind = at 7 ∙ of_kind;
      size = at 8;
      fits = fits;
      end = at 9;
    }

  pub behind_head : drop 20 out ≡ rest
  behind_head = ap (drop 20) written ∙ drop_at (spelled head_widths (head_numbers n1 n2 n3 n4 n5 n6 n7 n8)) rest 20 (length-spelled head_widths (head_numbers n1 n2 n3 n4 n5 n6 n7 n8) refl)

-- ---- records one after the other

module _ (rs : List Record) (i : ℕ) (d : Record) (more : i < length rs) where
  pub one_more : spellings (take (i + 1) rs) ≡ spellings (take i rs) ++ spelling (get_or rs i d)
  one_more = let next : i + 1 ≡ suc i = omega arith in ap (λ n. spellings (take n rs)) next ∙ ap spellings (take-suc rs i d more) ∙ spellings-push (take i rs) (get_or rs i d)

  pub counted_on : (at n : ℕ) → at ≡ length (spellings (take i rs)) → n ≡ length (spelling (get_or rs i d)) → at + n ≡ length (spellings (take (i + 1) rs))
  counted_on at n counted size = omega (arith, counted, size, ap length one_more, length-append (spellings (take i rs)) (spelling (get_or rs i d)))

  -- the record ends where all records end, or before
  pub ends_inside : length (spellings (take i rs)) + length (spelling (get_or rs i d)) ≤ length (spellings rs)
  ends_inside =
      let all : spellings rs ≡ spellings (take (i + 1) rs) ++ spellings (drop (i + 1) rs) = ap spellings (sym (take-append-drop (i + 1) rs)) ∙ spellings-append (take (i + 1) rs) (drop (i + 1) rs) in
      omega (arith, ap length all, length-append (spellings (take (i + 1) rs)) (spellings (drop (i + 1) rs)), ap length one_more, length-append (spellings (take i rs)) (spelling (get_or rs i d)))

  module _ (old out : List ℕ) (at : ℕ) (counted : at ≡ length (spellings (take i rs))) (written : out ≡ spellings (take i rs) ++ drop at old) (room : length (spellings rs) ≤ length old) where
    pub place_for_one : length (spelling (get_or rs i d)) ≤ length (take (length out - at) (drop at out))
    place_for_one =
        omega (arith, length-take (length out - at) (drop at out), length-drop at out, ap length written, length-append (spellings (take i rs)) (drop at old), length-drop at old, counted, ends_inside, room)

    pub puts_one : (ys : List ℕ) (n : ℕ) → n ≡ length (spelling (get_or rs i d)) → ys ≡ spelling (get_or rs i d) ++ drop n (take (length out - at) (drop at out))
        → put_mid at (length out - at) out ys ≡ spellings (take (i + 1) rs) ++ drop (at + n) old
    puts_one ys n size is =
        over (spellings (take i rs)) (spelling (get_or rs i d)) old out ys at n (sym counted) (sym size) (omega (arith, counted, size, ends_inside, room)) written is
        ∙ ap (λ (bs : List ℕ). bs ++ drop (at + n) old) (sym one_more)

-- ---- a whole cell

pub zeros_left : (n m : ℕ) → n ≤ m → drop n (zero_bytes m) ≡ zero_bytes (m - n)
unfolding zero_bytes
zeros_left zero m le = let e : m - 0 ≡ m = omega arith in ap (λ k. replicate k 0) (sym e)
zeros_left (suc n) zero le = absurd (omega (arith, le))
zeros_left (suc n) (suc m) le = let e : suc m - suc n ≡ m - n = omega arith in zeros_left n m (omega (arith, le)) ∙ ap (λ k. replicate k 0) (sym e)

pub cell_written : (out : List ℕ) (head : CellHead) (rs : List Record) (size : ℕ) → size ≡ length (spellings rs) → size ≤ 272 → HasHead out head size → AreRecords rs
    → drop 20 out ≡ spellings rs ++ drop size (zero_bytes 272) → IsCell out (record { head = head; records = rs })
cell_written out head rs size is_size fits is_head good behind = record {
  head = subst (HasHead out head) is_size is_head;
  records = ap (take (length (spellings rs))) behind ∙ take_at (spellings rs) (drop size (zero_bytes 272)) (length (spellings rs)) refl;
  others = sym (drop-drop (length (spellings rs)) 20 out) ∙ ap (drop (length (spellings rs))) behind
      ∙ drop_at (spellings rs) (drop size (zero_bytes 272)) (length (spellings rs)) refl ∙ zeros_left size 272 fits ∙ ap (λ n. zero_bytes (272 - n)) is_size;
  well_formed = good;
}

pub behind_zeros : (zs bytes spelled : List ℕ) (size : ℕ) → zs ≡ zero_bytes 292 → bytes ≡ spelled ++ drop size (take (length zs - 20) (drop 20 zs))
    → drop 20 (put_mid 20 (length zs - 20) zs bytes) ≡ spelled ++ drop size (zero_bytes 272)
behind_zeros zs bytes spelled size zeros is =
    let long : length zs ≡ 292 = ap length zeros ∙ length-zero_bytes 292 in
    let front : length (take 20 zs) ≡ 20 = omega (arith, length-take 20 zs, long) in
    let fits : length (drop 20 zs) ≤ length zs - 20 = omega (arith, length-drop 20 zs) in
    let none : post_of 20 (length zs - 20) zs ≡ [] = drop_all (length zs - 20) (drop 20 zs) fits in
    drop_at (take 20 zs) (bytes ++ post_of 20 (length zs - 20) zs) 20 front ∙ ap (λ (bs : List ℕ). bytes ++ bs) none ∙ append-nil bytes ∙ is
    ∙ ap (λ (bs : List ℕ). spelled ++ drop size bs) (take_all (length zs - 20) (drop 20 zs) fits ∙ ap (drop 20) zeros ∙ zeros_left 20 292 (omega arith))
