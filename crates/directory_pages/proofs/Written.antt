-- Directory pages on which rows were written.
use Rattle.std.proofs.Common.{◌≡◌, ◌∙◌, ℕ, zero, suc, ◌+◌, ◌-◌, ◌<◌, ◌≤◌, Bool, true, false, cond, nat_lt, List, [], ◌∷◌, ◌++◌, length, take, drop, get_or, replicate, slice_index, refl, sym, ap, subst, arith, append_assoc, length-append, length-drop, length-take}
use Rattle.std.proofs.lemmas.Bool.{ltb-false, ltb-true}
use Rattle.std.proofs.lemmas.List.{append-nil, drop-drop, drop_all, drop_at, get_or_append_left, get_or-append_right, get_or-drop, get_or-take, take-append-drop, take_all, take_at, take_more}
use Rattle.std.proofs.Math.Seq.{drop-append-add}
use Rattle.std.specs.List.{AllByRecursion}
use Rattle.cell_records.specs.domain_base.Page.{overwritten, zero_bytes, length-zero_bytes, slice_index-zero_bytes}
use Rattle.directory_pages.specs.declared.row.Row.{Row}
use Rattle.directory_pages.specs.Rows.{IsRow, spelled_row, spelling}
use Rattle.directory_pages.specs.RowPage.{HasRows, IsRowPage, closed, header, page_of}
use Rattle.directory_pages.proofs.Again.{spelling-append}
use Rattle.directory_pages.proofs.PageParts.{header_long, read_alike, rows_are_once, spelled_header}

-- ---- bytes overwritten

-- after a front
pub over : (front rest bytes : List ℕ) (at : ℕ) → length front ≡ at → overwritten (front ++ rest) at bytes ≡ front ++ bytes ++ drop (length bytes) rest
over front rest bytes at len =
    (λ i. take_at front rest at len i ++ bytes ++ drop (len' i + length bytes) (front ++ rest))
    ∙ ap (λ (bs : List ℕ). front ++ bytes ++ bs) (drop-append-add front rest (length bytes))
  where
    len' : at ≡ length front
    len' = sym len

-- at the start
pub over_start : (front rest bytes : List ℕ) → length front ≡ length bytes → overwritten (front ++ rest) 0 bytes ≡ bytes ++ rest
over_start front rest bytes len =
    ap (λ (n : ℕ). bytes ++ drop n (front ++ rest)) (omega (arith, len)) ∙ ap (λ (bs : List ℕ). bytes ++ bs) (drop_at front rest (length front) refl)

-- bytes after others that were written before
pub over_twice : (page one two : List ℕ) (at n : ℕ) → at + length one ≡ n → at + length one ≤ length page → overwritten (overwritten page at one) n two ≡ overwritten page at (one ++ two)
over_twice page one two at n next fits =
    let rest = drop (at + length one) page in
    let front = take at page ++ one in
    let len : length front ≡ n = omega (arith, length-append (take at page) one, length-take at page, next, fits) in
    over front rest two n len
    ∙ (λ i. append_assoc (take at page) one two i ++ drop-drop (length two) (at + length one) page i)
    ∙ ap (λ (m : ℕ). take at page ++ (one ++ two) ++ drop m page) (omega (arith, length-append one two))

-- ---- a page of rows

pub made : (page : List ℕ) (rows : List Row) (rest : List ℕ) → page ≡ page_of rows rest → length page ≡ 8192 → AllByRecursion IsRow rows → HasRows rows rest page
made page rows rest is whole good =
    let row_page : IsRowPage page rows = record { whole = whole; rest = rest; parts = is; good = good } in
    record { value = is; good = read_alike page rows row_page; read = rows_are_once page rows row_page }

pub good_more : (rows : List Row) (row : Row) → AllByRecursion IsRow rows → IsRow row → AllByRecursion IsRow (rows ++ row ∷ [])
good_more [] row good one = (one, tt)
good_more (r ∷ rows) row good one = (good.0, good_more rows row good.1 one)

length_more : (rows : List Row) (row : Row) → length (rows ++ row ∷ []) ≡ length rows + 1
length_more rows row = length-append rows (row ∷ [])

spelling_more : (rows : List Row) (row : Row) → spelling (rows ++ row ∷ []) ≡ spelling rows ++ spelled_row row
spelling_more rows row = spelling-append rows (row ∷ []) ∙ ap (λ (bs : List ℕ). spelling rows ++ bs) (append-nil (spelled_row row))

module _ (page : List ℕ) (rows : List Row) (is : IsRowPage page rows) where
  -- the header written anew
  head_over : (bytes rest : List ℕ) → length bytes ≡ 16 → overwritten (header rows ++ rest) 0 bytes ≡ bytes ++ rest
  head_over bytes rest len = over_start (header rows) rest bytes (header_long (length (spelling rows)) (length rows) ∙ sym len)

  -- a row added after the others
  module _ (row : Row) (one two : List ℕ) (at size count : ℕ) (start : at ≡ 16 + length (spelling rows)) (room : at + length (spelled_row row) ≤ 8192)
      (put : one ≡ overwritten page at (spelled_row row)) (sized : size ≡ length (spelling rows) + length (spelled_row row)) (counted : count ≡ length rows + 1)
      (headed : two ≡ overwritten one 0 (spelled_header size count)) (whole : length two ≡ 8192) (good : IsRow row) where
    abbrev more : List Row
    more = rows ++ row ∷ []

    rest : List ℕ
    rest = drop (length (spelled_row row)) is.rest

    front_long : length (header rows ++ spelling rows) ≡ at
    front_long = omega (arith, length-append (header rows) (spelling rows), header_long (length (spelling rows)) (length rows), start)

    one_is : one ≡ header rows ++ (spelling rows ++ spelled_row row ++ rest)
    unfolding rest
    one_is =
        put ∙ ap (λ (bs : List ℕ). overwritten bs at (spelled_row row)) is.parts
        ∙ over (header rows ++ spelling rows) is.rest (spelled_row row) at front_long
        ∙ ap (λ (bs : List ℕ). bs ++ drop (length (spelled_row row)) is.rest) (append_assoc (header rows) (spelling rows) (spelled_row row))
        ∙ append_assoc (header rows) (spelling rows ++ spelled_row row) (drop (length (spelled_row row)) is.rest)

    size_more : size ≡ length (spelling more)
    size_more = omega (arith, sized, ap length (spelling_more rows row), length-append (spelling rows) (spelled_row row))

    count_more : count ≡ length more
    count_more = counted ∙ sym (length_more rows row)

    two_is : two ≡ page_of more rest
    two_is =
        headed ∙ ap (λ (bs : List ℕ). overwritten bs 0 (spelled_header size count)) one_is
        ∙ head_over (spelled_header size count) (spelling rows ++ spelled_row row ++ rest) (header_long size count)
        ∙ sym (append_assoc (spelled_header size count) (spelling rows ++ spelled_row row) rest)
        ∙ (λ i. spelled_header (size_more i) (count_more i) ++ sym (spelling_more rows row) i ++ rest)

    pub added : HasRows more (drop (length (spelled_row row)) is.rest) two
    unfolding rest
    added = made two more rest two_is whole (good_more rows row is.good good)

-- ---- a gap closed

good_parts : (front : List Row) (row : Row) (back : List Row) → AllByRecursion IsRow (front ++ row ∷ back) → IsRow row
good_parts [] row back good = good.0
good_parts (r ∷ front) row back good = good_parts front row back good.1

good_without : (front : List Row) (row : Row) (back : List Row) → AllByRecursion IsRow (front ++ row ∷ back) → AllByRecursion IsRow (front ++ back)
good_without [] row back good = good.1
good_without (r ∷ front) row back good = (good.0, good_without front row back good.1)

pub closed_parts : (front gone kept rest : List ℕ) (gap len end : ℕ) → length front ≡ gap → length gone ≡ len → gap + len + length kept ≡ end
    → closed gap len end (front ++ (gone ++ (kept ++ rest))) ≡ front ++ kept ++ zero_bytes len ++ rest
closed_parts front gone kept rest gap len end is_gap is_len is_end =
    let all = front ++ (gone ++ (kept ++ rest)) in
    let behind_gap : drop (gap + len) all ≡ kept ++ rest =
    ap (λ (bs : List ℕ). drop (gap + len) bs) (sym (append_assoc front gone (kept ++ rest)))
    ∙ drop_at (front ++ gone) (kept ++ rest) (gap + len) (omega (arith, length-append front gone, is_gap, is_len)) in
    let behind_all : drop end all ≡ rest =
    ap (λ (n : ℕ). drop n all) (sym is_end) ∙ sym (drop-drop (length kept) (gap + len) all) ∙ ap (drop (length kept)) behind_gap ∙ drop_at kept rest (length kept) refl in
    let between : end - (gap + len) ≡ length kept = omega (arith, is_end) in
    (λ i. take_at front (gone ++ (kept ++ rest)) gap is_gap i ++ take (between i) (behind_gap i) ++ zero_bytes len ++ behind_all i)
    ∙ ap (λ (bs : List ℕ). front ++ bs ++ zero_bytes len ++ rest) (take_at kept rest (length kept) refl)

module _ (page : List ℕ) (rows front : List Row) (row : Row) (back : List Row) (is : IsRowPage page rows) (split : rows ≡ front ++ row ∷ back)
    (one two : List ℕ) (start len end size count : ℕ) (at : start ≡ 16 + length (spelling front)) (long : len ≡ length (spelled_row row)) (last : end ≡ 16 + length (spelling rows))
    (close : one ≡ closed start len end page) (sized : size + len ≡ length (spelling rows)) (counted : count + 1 ≡ length rows)
    (headed : two ≡ overwritten one 0 (spelled_header size count)) (whole : length two ≡ 8192) where
  abbrev pub left : List Row
  left = front ++ back

  abbrev pub zeros_behind : List ℕ
  zeros_behind = zero_bytes len ++ is.rest

  all_rows : spelling rows ≡ spelling front ++ (spelled_row row ++ spelling back)
  all_rows = ap spelling split ∙ spelling-append front (row ∷ back)

  page_is : page ≡ (header rows ++ spelling front) ++ (spelled_row row ++ (spelling back ++ is.rest))
  page_is =
      is.parts ∙ ap (λ (bs : List ℕ). header rows ++ bs ++ is.rest) all_rows
      ∙ ap (λ (bs : List ℕ). bs ++ is.rest) (sym (append_assoc (header rows) (spelling front) (spelled_row row ++ spelling back)))
      ∙ append_assoc (header rows ++ spelling front) (spelled_row row ++ spelling back) is.rest
      ∙ ap (λ (bs : List ℕ). (header rows ++ spelling front) ++ bs) (append_assoc (spelled_row row) (spelling back) is.rest)

  header_16 : length (header rows) ≡ 16
  header_16 = header_long (length (spelling rows)) (length rows)

  close_is : one ≡ header rows ++ (spelling front ++ spelling back ++ zeros_behind)
  close_is =
      close ∙ ap (closed start len end) page_is
      ∙ closed_parts (header rows ++ spelling front) (spelled_row row) (spelling back) is.rest start len end
      (omega (arith, length-append (header rows) (spelling front), header_16, at)) (sym long)
      (omega (arith, at, long, last, ap length all_rows, length-append (spelling front) (spelled_row row ++ spelling back), length-append (spelled_row row) (spelling back)))
      ∙ append_assoc (header rows ++ spelling front ++ spelling back) (zero_bytes len) is.rest
      ∙ ap (λ (bs : List ℕ). bs ++ zeros_behind) (append_assoc (header rows) (spelling front) (spelling back))
      ∙ append_assoc (header rows) (spelling front ++ spelling back) zeros_behind

  size_left : size ≡ length (spelling left)
  size_left = omega (arith, sized, long, ap length all_rows, length-append (spelling front) (spelled_row row ++ spelling back), length-append (spelled_row row) (spelling back), ap length (spelling-append front back), length-append (spelling front) (spelling back))

  count_left : count ≡ length left
  count_left = omega (arith, counted, ap length split, length-append front (row ∷ back), length-append front back)

  left_is : two ≡ page_of left zeros_behind
  left_is =
      headed ∙ ap (λ (bs : List ℕ). overwritten bs 0 (spelled_header size count)) close_is
      ∙ over_start (header rows) (spelling front ++ spelling back ++ zeros_behind) (spelled_header size count) (header_16 ∙ sym (header_long size count))
      ∙ sym (append_assoc (spelled_header size count) (spelling front ++ spelling back) zeros_behind)
      ∙ (λ i. spelled_header (size_left i) (count_left i) ++ sym (spelling-append front back) i ++ zeros_behind)

  pub removed : HasRows left zeros_behind two
  removed = made two left zeros_behind left_is whole (good_without front row back (subst (AllByRecursion IsRow) split is.good))

-- ---- one byte after the other

-- some bytes, the first of which are written already, and one more
pub next_byte : (old new moved : List ℕ) (gap at byte : ℕ) → gap ≤ at → at < length old → at < gap + length moved → new ≡ take gap old ++ take (at - gap) moved ++ drop at old
    → byte ≡ get_or moved (at - gap) 0 → overwritten new at (byte ∷ []) ≡ take gap old ++ take (at + 1 - gap) moved ++ drop (at + 1) old
next_byte old new moved gap at byte begun within more is is_byte =
    let front = take gap old ++ take (at - gap) moved in
    let len : length front ≡ at = omega (arith, length-append (take gap old) (take (at - gap) moved), length-take gap old, length-take (at - gap) moved, begun, within, more) in
    let next : at - gap + 1 ≡ at + 1 - gap = omega (arith, begun) in
    let one_more : take (at - gap) moved ++ byte ∷ [] ≡ take (at + 1 - gap) moved =
    ap (λ (b : ℕ). take (at - gap) moved ++ b ∷ []) is_byte ∙ sym (take_more moved (at - gap) 0 (omega (arith, begun, more))) ∙ ap (λ n. take n moved) next in
    ap (λ (bs : List ℕ). overwritten bs at (byte ∷ [])) is ∙ over front (drop at old) (byte ∷ []) at len
    ∙ ap (λ (bs : List ℕ). front ++ (byte ∷ []) ++ bs) (drop-drop 1 at old)
    ∙ ap (λ (bs : List ℕ). bs ++ drop (at + 1) old) (append_assoc (take gap old) (take (at - gap) moved) (byte ∷ []) ∙ ap (λ (bs : List ℕ). take gap old ++ bs) one_more)

-- what stands in place of a gap and of the bytes after it when it is closed
abbrev pub moved : ℕ → ℕ → ℕ → List ℕ → List ℕ
moved gap len end old = take (end - (gap + len)) (drop (gap + len) old) ++ zero_bytes len

pub nothing_moved : (old all : List ℕ) (gap : ℕ) → old ≡ take gap old ++ take (gap - gap) all ++ drop gap old
nothing_moved old all gap =
    let none : 0 ≡ gap - gap = omega arith in
    sym (take-append-drop gap old) ∙ ap (λ (bs : List ℕ). bs ++ drop gap old) (sym (append-nil (take gap old))) ∙ ap (λ n. take gap old ++ take n all ++ drop gap old) none

module _ (gap len end : ℕ) (old : List ℕ) (room : gap + len ≤ end) (within : end ≤ 8192) (whole : length old ≡ 8192) where
  abbrev kept : List ℕ
  kept = take (end - (gap + len)) (drop (gap + len) old)

  kept_long : length kept ≡ end - (gap + len)
  kept_long = omega (arith, length-take (end - (gap + len)) (drop (gap + len) old), length-drop (gap + len) old, room, within, whole)

  pub moved_long : length (moved gap len end old) ≡ end - gap
  moved_long = omega (arith, length-append kept (zero_bytes len), kept_long, length-zero_bytes len, room)

  pub closed_now : take gap old ++ take (end - gap) (moved gap len end old) ++ drop end old ≡ closed gap len end old
  closed_now =
      ap (λ (bs : List ℕ). take gap old ++ bs ++ drop end old) (take_all (end - gap) (moved gap len end old) (omega (arith, moved_long)))
      ∙ ap (λ (bs : List ℕ). bs ++ drop end old) (sym (append_assoc (take gap old) kept (zero_bytes len)))

  module _ (at : ℕ) (now : List ℕ) (begun : gap ≤ at) (more : at < end) (is : now ≡ take gap old ++ take (at - gap) (moved gap len end old) ++ drop at old) where
    written_long : length (take gap old ++ take (at - gap) (moved gap len end old)) ≡ at
    written_long = omega (arith, length-append (take gap old) (take (at - gap) (moved gap len end old)), length-take gap old, length-take (at - gap) (moved gap len end old), moved_long, begun, more, room, within, whole)

    -- what was not written yet is as it was
    still : (k : ℕ) → get_or now (at + k) 0 ≡ get_or old (at + k) 0
    still k =
        ap (λ (bs : List ℕ). get_or bs (at + k) 0) is ∙ sym (get_or-drop at (take gap old ++ take (at - gap) (moved gap len end old) ++ drop at old) k 0)
        ∙ ap (λ (bs : List ℕ). get_or bs k 0) (drop_at (take gap old ++ take (at - gap) (moved gap len end old)) (drop at old) at written_long)
        ∙ get_or-drop at old k 0

    at_place : (k : ℕ) → k ≡ at - gap → (b : Bool) → nat_lt (at + len) end ≡ b → cond b (slice_index now (at + len)) 0 ≡ get_or (moved gap len end old) k 0
    at_place k place true before =
        let lt : at + len < end = ltb-true (at + len) end before in
        let inside : k < length kept = omega (arith, kept_long, lt, begun, place) in
        let from : gap + len + k ≡ at + len = omega (arith, place, begun) in
        still len ∙ ap (λ n. get_or old n 0) (sym from) ∙ sym (get_or-drop (gap + len) old k 0)
        ∙ sym (get_or-take (end - (gap + len)) (drop (gap + len) old) k 0 (omega (arith, lt, begun, place)))
        ∙ sym (get_or_append_left kept (zero_bytes len) 0 k inside)
    at_place k place false behind_end =
        let le : end ≤ at + len = ltb-false (at + len) end behind_end in
        let past : length kept ≤ k = omega (arith, kept_long, le, begun, place, room) in
        sym (get_or-append_right kept (zero_bytes len) (length kept) k 0 refl past ∙ slice_index-zero_bytes len (k - length kept) (omega (arith, kept_long, more, begun, place, room, past)))

pub moved_byte : (gap len end at : ℕ) (old now : List ℕ) → gap + len ≤ end → end ≤ 8192 → length old ≡ 8192 → gap ≤ at → at < end
    → now ≡ take gap old ++ take (at - gap) (moved gap len end old) ++ drop at old
    → cond (nat_lt (at + len) end) (slice_index now (at + len)) 0 ≡ get_or (moved gap len end old) (at - gap) 0
moved_byte gap len end at old now room within whole begun more is = at_place gap len end old room within whole at now begun more is (at - gap) refl (nat_lt (at + len) end) refl

-- ---- a page of zeros

pub zeros_append : (n m : ℕ) → zero_bytes (n + m) ≡ zero_bytes n ++ zero_bytes m
unfolding zero_bytes
zeros_append zero m = let e : 0 + m ≡ m = omega arith in ap (λ k. replicate k 0) e
zeros_append (suc n) m = let e : suc n + m ≡ suc (n + m) = omega arith in ap (λ k. replicate k 0) e ∙ ap (λ (bs : List ℕ). 0 ∷ bs) (zeros_append n m)

one_zero : zero_bytes 1 ≡ 0 ∷ []
unfolding zero_bytes
one_zero = refl

no_zeros : zero_bytes 0 ≡ []
unfolding zero_bytes
no_zeros = refl

pub zeros_none : (old : List ℕ) → old ≡ zero_bytes 0 ++ drop 0 old
zeros_none old = ap (λ (bs : List ℕ). bs ++ old) (sym no_zeros)

pub zeros_more : (old now : List ℕ) (at : ℕ) → now ≡ zero_bytes at ++ drop at old → overwritten now at (0 ∷ []) ≡ zero_bytes (at + 1) ++ drop (at + 1) old
zeros_more old now at is =
    ap (λ (bs : List ℕ). overwritten bs at (0 ∷ [])) is ∙ over (zero_bytes at) (drop at old) (0 ∷ []) at (length-zero_bytes at)
    ∙ (λ i. zero_bytes at ++ sym one_zero i ++ drop-drop 1 at old i) ∙ ap (λ (bs : List ℕ). bs ++ drop (at + 1) old) (sym (zeros_append at 1))

pub zeros_all : (old now : List ℕ) (at n : ℕ) → n ≡ at → length old ≡ n → now ≡ zero_bytes at ++ drop at old → now ≡ zero_bytes n
zeros_all old now at n ends whole is =
    is ∙ ap (λ (bs : List ℕ). zero_bytes at ++ bs) (drop_all at old (omega (arith, ends, whole))) ∙ append-nil (zero_bytes at) ∙ ap zero_bytes (sym ends)

pub cleared : (old now new : List ℕ) → now ≡ zero_bytes 8192 → new ≡ overwritten now 0 (spelled_header 0 0) → length new ≡ 8192 → HasRows [] (zero_bytes 8176) new
cleared old now new zeros is whole =
    made new [] (zero_bytes 8176)
    (is ∙ ap (λ (bs : List ℕ). overwritten bs 0 (spelled_header 0 0)) (zeros ∙ zeros_append 16 8176)
    ∙ over_start (zero_bytes 16) (zero_bytes 8176) (spelled_header 0 0) (length-zero_bytes 16 ∙ sym (header_long 0 0)) ∙ ap (λ (bs : List ℕ). bs ++ zero_bytes 8176) (sym (append-nil (spelled_header 0 0))))
    whole tt
