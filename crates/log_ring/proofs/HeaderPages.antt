-- Headers as they stand on a page, read and written.
use Rattle.std.proofs.Common.{◌≡◌, ℕ, zero, suc, ◌+◌, ◌-◌, ◌*◌, ◌^◌, ◌<◌, ◌≤◌, ◌++◌, List, [], ◌∷◌, length, get_or, take, drop, refl, sym, ◌∙◌, ap, subst, arith, append_assoc, below_more, length-append, length-take}
use Rattle.std.proofs.lemmas.List.{append-nil, drop-drop, drop-replicate, drop_at, drop_all, get_or_default, take-append-drop, take_all, take_at, take_more}
use Rattle.std.proofs.lemmas.List.Concat.{flat_map-append, flat_map-cons}
use Rattle.std.specs.List.{flat_map}
use Rattle.byteorder.specs.Endian.{little_number, little_bytes}
use Rattle.byteorder.specs.Numbers.{length-bytes_low_first, little_number-reads_back}
use Rattle.disk_label.specs.domain_base.Gate.{IsOpen}
use Rattle.disk_label.specs.domain_base.Limits.{group_images}
use Rattle.disk_label.specs.domain_base.Page.{length-zero_bytes, overwritten, zero_bytes}
use Rattle.disk_label.specs.domain_base.declared.place.Home.{Home}
use Rattle.cell_records.specs.Fields.{number_at}
use Rattle.log_ring.specs.Header.{AreHomesAt, AreHomesOf, ArePlaces, IsHeader, IsHeaderOf, IsHomeAt, IsPlace, IsRead, IsSayable, begun, header_bytes, home_bytes}
use Rattle.log_ring.specs.Images.{AreDistinct}
use Rattle.log_ring.specs.Laws.{DependsBehindGate, HasOneHeader}
use Rattle.log_ring.specs.declared.header.Header.{Header}
use Rattle.log_ring.specs.declared.header.HeaderRead.{HeaderRead}
use Rattle.log_ring.specs.declared.header.HeaderRead.TheVariants.{Closed, Group, Bad}

-- A page has one header at most.

home_is : (bytes : List ℕ) (at : ℕ) (one other : Home) → IsHomeAt bytes at one → IsHomeAt bytes at other → one ≡ other
home_is bytes at one other a b = λ i. record { vol = (sym a.volume ∙ b.volume) i; page = (sym a.page ∙ b.page) i }

homes_are : (bytes : List ℕ) (at : ℕ) (one other : List Home) → AreHomesAt bytes at one → AreHomesAt bytes at other → length one ≡ length other → one ≡ other
homes_are bytes at [] [] a b same = refl
homes_are bytes at [] (home ∷ other) a b same = absurd (omega (arith, same))
homes_are bytes at (home ∷ one) [] a b same = absurd (omega (arith, same))
homes_are bytes at (home ∷ one) (home' ∷ other) a b same = λ i. home_is bytes at home home' a.0 b.0 i ∷ homes_are bytes (at + 8) one other a.1 b.1 (omega (arith, same)) i

pub one_header : (page : List ℕ) (one other : Header) → HasOneHeader page one other
one_header page one other a b = λ i. record {
  number = (sym a.number ∙ b.number) i;
  homes = homes_are page 528 one.homes other.homes a.homes b.homes (sym a.count ∙ b.count) i;
}

-- Which one it has depends on what stands after the gate.

behind : (at : ℕ) (page : List ℕ) → 512 ≤ at → drop at page ≡ drop (at - 512) (drop 512 page)
behind at page le = let is : at ≡ 512 + (at - 512) = omega arith in ap (λ (n : ℕ). drop n page) is ∙ sym (drop-drop (at - 512) 512 page)

number_at-behind : (w at : ℕ) (one other : List ℕ) → 512 ≤ at → drop 512 one ≡ drop 512 other → number_at w at one ≡ number_at w at other
unfolding number_at
number_at-behind w at one other le same = ap (little_number w) (behind at one le ∙ ap (drop (at - 512)) same ∙ sym (behind at other le))

homes_behind : (at : ℕ) (one other : List ℕ) (homes : List Home) → 512 ≤ at → drop 512 one ≡ drop 512 other → AreHomesAt one at homes → AreHomesAt other at homes
homes_behind at one other [] le same there = tt
homes_behind at one other (home ∷ homes) le same there = (
  record {
    volume = sym (number_at-behind 4 at one other le same) ∙ there.0.volume;
    first = there.0.first;
    last = there.0.last;
    page = sym (number_at-behind 4 (at + 4) one other (omega arith) same) ∙ there.0.page;
  },
  homes_behind (at + 8) one other homes (omega arith) same there.1,
)

pub header-behind_gate : (one other : List ℕ) (header : Header) → DependsBehindGate one other header
header-behind_gate one other header same there = record {
  number = sym (number_at-behind 8 512 one other (omega arith) same) ∙ there.number;
  count = sym (number_at-behind 4 520 one other (omega arith) same) ∙ there.count;
  homes = homes_behind 528 one other header.homes (omega arith) same there.homes;
  sayable = there.sayable;
}

-- Homes that are read one after the other.

pub homes_push : (bytes : List ℕ) (at : ℕ) (homes : List Home) (home : Home) → AreHomesAt bytes at homes → IsHomeAt bytes (at + 8 * length homes) home → AreHomesAt bytes at (homes ++ home ∷ [])
homes_push bytes at [] home there here = (subst (λ (k : ℕ). IsHomeAt bytes k home) (omega arith) here, tt)
homes_push bytes at (first ∷ homes) home there here = (there.0, homes_push bytes (at + 8) homes home there.1 (subst (λ (k : ℕ). IsHomeAt bytes k home) (omega arith) here))

-- each of them stands at its place
pub home_among : (bytes : List ℕ) (at : ℕ) (homes : List Home) (i : ℕ) → AreHomesAt bytes at homes → i < length homes → (home : Home) × IsHomeAt bytes (at + 8 * i) home
home_among bytes at [] i there lt = absurd (omega (arith, lt))
home_among bytes at (home ∷ homes) zero there lt = (home, subst (λ (k : ℕ). IsHomeAt bytes k home) (omega arith) there.0)
home_among bytes at (home ∷ homes) (suc i) there lt =
    let more = home_among bytes (at + 8) homes i there.1 (omega (arith, lt)) in
    (more.0, subst (λ (k : ℕ). IsHomeAt bytes k more.0) (omega arith) more.1)

-- What is written over bytes, and more after it.

pub overwritten-next : (page : List ℕ) (at : ℕ) (xs ys : List ℕ) (next : ℕ) → next ≡ at + length xs → at + length xs ≤ length page → overwritten (overwritten page at xs) next ys ≡ overwritten page at (xs ++ ys)
overwritten-next page at xs ys next is fits =
    let front : length (take at page ++ xs) ≡ next = omega (arith, length-append (take at page) xs, length-take at page) in
    let size : at + length (xs ++ ys) ≡ next + length ys = omega (arith, length-append xs ys) in
    let first : take next (overwritten page at xs) ≡ take at page ++ xs = take_at (take at page ++ xs) (drop (at + length xs) page) next front in
    let rest : drop (next + length ys) (overwritten page at xs) ≡ drop (at + length (xs ++ ys)) page =
    sym (drop-drop (length ys) next (overwritten page at xs))
    ∙ ap (drop (length ys)) (drop_at (take at page ++ xs) (drop (at + length xs) page) next front)
    ∙ drop-drop (length ys) (at + length xs) page
    ∙ ap (λ (n : ℕ). drop n page) (omega arith) in
    rw (first, rest) (ap (λ (l : List ℕ). l ++ drop (at + length (xs ++ ys)) page) (append_assoc (take at page) xs ys))

pub overwritten-nothing : (page : List ℕ) (at : ℕ) → overwritten page at [] ≡ page
overwritten-nothing page at = ap (λ (l : List ℕ). l ++ drop (at + 0) page) (append-nil (take at page)) ∙ ap (λ (n : ℕ). take at page ++ drop n page) (omega arith) ∙ take-append-drop at page

-- The header that is read.

pub is_read : (page : List ℕ) (number count : ℕ) (homes : List Home) (read : HeaderRead) → IsOpen page → number ≡ number_at 8 512 page → number < 2 ^ 63 → count ≡ number_at 4 520 page → 1 ≤ count → count ≤ group_images → AreHomesOf page count homes → IsHeaderOf number homes read → IsRead page read
is_read page number count homes Closed opens is small counted some most of is_of = absurd is_of
is_read page number count homes (Group header) opens is small counted some most of is_of =
    let size : length header.homes ≡ count = ap length is_of.1 ∙ of.0 in (
      opens,
      record {
        number = sym is ∙ sym is_of.0;
        count = sym counted ∙ sym size;
        homes = subst (AreHomesAt page 528) (sym is_of.1) of.1;
        sayable = record {
          number = omega (arith, is_of.0, small);
          some = omega (arith, size, some);
          most = omega (arith, size, most);
          distinct = subst AreDistinct (sym is_of.1) is_of.2;
        };
      },
    )
is_read page number count homes Bad opens is small counted some most of is_of = (
  opens,
  λ header there.
      let same : length homes ≡ length header.homes = of.0 ∙ counted ∙ there.count in
      is_of (subst AreDistinct (homes_are page 528 header.homes homes there.homes of.1 (sym same)) there.sayable.distinct),
)

-- The homes that are written.

pub length-homes : (homes : List Home) → length (flat_map home_bytes homes) ≡ 8 * length homes
length-homes [] = refl
length-homes (home ∷ homes) =
    omega (arith, length-append (little_bytes 4 home.vol ++ little_bytes 4 home.page) (flat_map home_bytes homes), length-append (little_bytes 4 home.vol) (little_bytes 4 home.page), length-bytes_low_first 0 4 home.vol, length-bytes_low_first 0 4 home.page, length-homes homes)

pub homes_more : (first page new : List ℕ) (homes : List Home) (i : ℕ) (home : Home) (bytes : List ℕ) → length first ≡ 8192 → i < length homes → length homes ≤ group_images
    → page ≡ overwritten first 528 (flat_map home_bytes (take i homes)) → home ≡ get_or homes i home → bytes ≡ home_bytes home → new ≡ overwritten page (528 + 8 * i) bytes
    → new ≡ overwritten first 528 (flat_map home_bytes (take (i + 1) homes))
homes_more first page new homes i home bytes whole lt few was is spelled put =
    let front = flat_map home_bytes (take i homes) in
    let taken : length (take i homes) ≡ i = omega (arith, length-take i homes) in
    let size : length front ≡ 8 * i = length-homes (take i homes) ∙ ap (λ (n : ℕ). 8 * n) taken in
    let more : flat_map home_bytes (take (i + 1) homes) ≡ front ++ home_bytes home =
    ap (flat_map home_bytes) (take_more homes i home lt) ∙ flat_map-append home_bytes (take i homes) (get_or homes i home ∷ [])
    ∙ ap (λ (l : List ℕ). front ++ l) (flat_map-cons home_bytes (get_or homes i home) [] ∙ append-nil (home_bytes (get_or homes i home)) ∙ ap home_bytes (sym is)) in
    put ∙ (λ j. overwritten (was j) (528 + 8 * i) (spelled j)) ∙ overwritten-next first 528 front (home_bytes home) (528 + 8 * i) (omega (arith, size)) (omega (arith, size, whole)) ∙ ap (overwritten first 528) (sym more)

-- a number that stands after some bytes
number_there : (w n at : ℕ) (front rest : List ℕ) → length front ≡ at → n < 256 ^ w → number_at w at (front ++ (little_bytes w n ++ rest)) ≡ n
unfolding number_at
number_there w n at front rest len small = ap (little_number w) (drop_at front (little_bytes w n ++ rest) at len) ∙ little_number-reads_back w n rest small

homes_there : (at : ℕ) (homes : List Home) (front rest : List ℕ) → length front ≡ at → ArePlaces homes (length homes) → AreHomesAt (front ++ (flat_map home_bytes homes ++ rest)) at homes
homes_there at [] front rest len places = tt
homes_there at (home ∷ homes) front rest len places =
    let vol = little_bytes 4 home.vol in
    let page = little_bytes 4 home.page in
    let others = flat_map home_bytes homes in
    let wide = length-bytes_low_first 0 4 home.vol in
    let wide_page = length-bytes_low_first 0 4 home.page in
    let place = places 0 home (omega arith) in
    let grouped : front ++ (((vol ++ page) ++ others) ++ rest) ≡ front ++ (vol ++ (page ++ (others ++ rest))) = simp append_assoc in
    let second : front ++ (vol ++ (page ++ (others ++ rest))) ≡ (front ++ vol) ++ (page ++ (others ++ rest)) = simp append_assoc in
    let third : front ++ (vol ++ (page ++ (others ++ rest))) ≡ (front ++ (vol ++ page)) ++ (others ++ rest) = simp append_assoc in
    subst (λ (l : List ℕ). IsHomeAt l at home × AreHomesAt l (at + 8) homes) (sym grouped) (
      record {
        volume = number_there 4 home.vol at front (page ++ (others ++ rest)) len (omega (arith, place.last));
        first = place.first;
        last = place.last;
        page = ap (number_at 4 (at + 4)) second ∙ number_there 4 home.page (at + 4) (front ++ vol) (others ++ rest) (omega (arith, length-append front vol, wide, len)) (omega (arith, place.page));
      },
      subst (λ (l : List ℕ). AreHomesAt l (at + 8) homes) (sym third)
          (homes_there (at + 8) homes (front ++ (vol ++ page)) rest (omega (arith, length-append front (vol ++ page), length-append vol page, wide, wide_page, len)) (λ i d lt. places (suc i) d (omega (arith, lt)))),
    )

-- one home more of those that a loop puts
pub one_more_put : (first page new : List ℕ) (homes : List Home) (i : ℕ) (home : Home) → length first ≡ 8192 → i < length homes → length homes ≤ group_images → home ≡ get_or homes i home
    → page ≡ overwritten first 528 (flat_map home_bytes (take i homes)) → new ≡ overwritten page (528 + 8 * i) (home_bytes home) → new ≡ overwritten first 528 (flat_map home_bytes (take (i + 1) homes))
one_more_put first page new homes i home whole lt few is was put = homes_more first page new homes i home (home_bytes home) whole lt few was is refl put

pub one_more_place : (homes : List Home) (i : ℕ) (home : Home) → i < length homes → home ≡ get_or homes i home → IsPlace home → ArePlaces homes i → ArePlaces homes (i + 1)
one_more_place homes i home lt is place places =
    λ k d below.
    below_more (λ k. (d : Home) → IsPlace (get_or homes k d)) i (λ k below d. places k d below) (λ d. subst IsPlace (is ∙ get_or_default homes i home d lt) place) k below d

-- The page that is written.

pub header_there : (gate : List ℕ) (header : Header) → length gate ≡ 512 → IsSayable header → ArePlaces header.homes (length header.homes) → IsHeader (gate ++ header_bytes header) header
unfolding header_bytes
header_there gate header len sayable places =
    let number = little_bytes 8 header.number in
    let count = little_bytes 4 (length header.homes) in
    let zeros = zero_bytes 4 in
    let homes = flat_map home_bytes header.homes in
    let rest = zero_bytes (7664 - 8 * length header.homes) in
    let wide = length-bytes_low_first 0 8 header.number in
    let wide_count = length-bytes_low_first 0 4 (length header.homes) in
    let first : gate ++ ((((number ++ count) ++ zeros) ++ homes) ++ rest) ≡ gate ++ (number ++ (count ++ (zeros ++ (homes ++ rest)))) = simp append_assoc in
    let second : gate ++ ((((number ++ count) ++ zeros) ++ homes) ++ rest) ≡ (gate ++ number) ++ (count ++ (zeros ++ (homes ++ rest))) = simp append_assoc in
    let third : gate ++ ((((number ++ count) ++ zeros) ++ homes) ++ rest) ≡ (gate ++ (number ++ (count ++ zeros))) ++ (homes ++ rest) = simp append_assoc in
    record {
      number = ap (number_at 8 512) first ∙ number_there 8 header.number 512 gate (count ++ (zeros ++ (homes ++ rest))) len (omega (arith, sayable.number));
      count = ap (number_at 4 520) second ∙ number_there 4 (length header.homes) 520 (gate ++ number) (zeros ++ (homes ++ rest)) (omega (arith, length-append gate number, wide, len)) (omega (arith, sayable.most));
      homes = subst (λ (l : List ℕ). AreHomesAt l 528 header.homes) (sym third)
          (homes_there 528 header.homes (gate ++ (number ++ (count ++ zeros))) rest
          (omega (arith, length-append gate (number ++ (count ++ zeros)), length-append number (count ++ zeros), length-append count zeros, wide, wide_count, length-zero_bytes 4, len)) places);
      sayable = sayable;
    }

drop-zero_bytes : (m n : ℕ) → drop m (zero_bytes n) ≡ zero_bytes (n - m)
unfolding zero_bytes
drop-zero_bytes m n = drop-replicate m n 0

abbrev front_of : List ℕ → ℕ → ℕ → List ℕ
front_of old number count = take 512 old ++ ((little_bytes 8 number ++ little_bytes 4 count) ++ zero_bytes 4)

front_size : (old : List ℕ) (number count : ℕ) → length old ≡ 8192 → length (front_of old number count) ≡ 528
front_size old number count whole =
    let n = little_bytes 8 number in
    let c = little_bytes 4 count in
    omega (arith, length-append (take 512 old) ((n ++ c) ++ zero_bytes 4), length-append (n ++ c) (zero_bytes 4), length-append n c, length-bytes_low_first 0 8 number, length-bytes_low_first 0 4 count, length-zero_bytes 4, length-take 512 old)

begun_is : (old : List ℕ) (number count : ℕ) → begun old number count ≡ front_of old number count ++ zero_bytes 7664
unfolding begun
begun_is old number count = sym (append_assoc (take 512 old) ((little_bytes 8 number ++ little_bytes 4 count) ++ zero_bytes 4) (zero_bytes 7664))

pub length-begun : (old : List ℕ) (number count : ℕ) → length old ≡ 8192 → length (begun old number count) ≡ 8192
length-begun old number count whole =
    omega (arith, ap length (begun_is old number count), length-append (front_of old number count) (zero_bytes 7664), front_size old number count whole, length-zero_bytes 7664)

-- a number and a count are put over zeros
pub begins : (old cleared new zeros head : List ℕ) (number count : ℕ) → length old ≡ 8192 → cleared ≡ overwritten old 512 zeros → zeros ≡ zero_bytes 7680 → new ≡ overwritten cleared 512 head
    → head ≡ (little_bytes 8 number ++ little_bytes 4 count) ++ zero_bytes 4 → new ≡ begun old number count
begins old cleared new zeros head number count whole clears none puts spelled =
    let front : length (take 512 old) ≡ 512 = omega (arith, length-take 512 old) in
    let none_left : drop (512 + length zeros) old ≡ [] = drop_all (512 + length zeros) old (omega (arith, ap length none, length-zero_bytes 7680)) in
    let body : cleared ≡ take 512 old ++ zero_bytes 7680 =
    clears ∙ ap (λ (l : List ℕ). (take 512 old ++ zeros) ++ l) none_left ∙ append-nil (take 512 old ++ zeros) ∙ ap (λ (l : List ℕ). take 512 old ++ l) none in
    let head' = (little_bytes 8 number ++ little_bytes 4 count) ++ zero_bytes 4 in
    let wide : length head' ≡ 16 = omega (arith, front_size old number count whole, length-append (take 512 old) head', front) in
    let kept : take 512 cleared ≡ take 512 old = ap (take 512) body ∙ take_at (take 512 old) (zero_bytes 7680) 512 front in
    let at : 512 + length head' ≡ 512 + 16 = omega (arith, wide) in
    let left : drop (512 + length head') cleared ≡ zero_bytes 7664 =
    ap (λ (n : ℕ). drop n cleared) at ∙ sym (drop-drop 16 512 cleared) ∙ ap (drop 16) (ap (drop 512) body ∙ drop_at (take 512 old) (zero_bytes 7680) 512 front) ∙ drop-zero_bytes 16 7680 in
    puts ∙ ap (overwritten cleared 512) spelled ∙ (λ i. (kept i ++ head') ++ left i) ∙ sym (begun_is old number count)

-- and homes are put after them
pub header_put : (old new : List ℕ) (header : Header) → length old ≡ 8192 → length header.homes ≤ group_images
    → new ≡ overwritten (begun old header.number (length header.homes)) 528 (flat_map home_bytes header.homes) → new ≡ take 512 old ++ header_bytes header
unfolding header_bytes
header_put old new header whole most puts =
    let head = (little_bytes 8 header.number ++ little_bytes 4 (length header.homes)) ++ zero_bytes 4 in
    let homes = flat_map home_bytes header.homes in
    let page = begun old header.number (length header.homes) in
    let front = front_of old header.number (length header.homes) in
    let is = begun_is old header.number (length header.homes) in
    let size = front_size old header.number (length header.homes) whole in
    let kept : take 528 page ≡ front = ap (take 528) is ∙ take_at front (zero_bytes 7664) 528 size in
    let left : drop (528 + length homes) page ≡ zero_bytes (7664 - 8 * length header.homes) =
    sym (drop-drop (length homes) 528 page) ∙ ap (drop (length homes)) (ap (drop 528) is ∙ drop_at front (zero_bytes 7664) 528 size) ∙ drop-zero_bytes (length homes) 7664
    ∙ ap (λ (n : ℕ). zero_bytes (7664 - n)) (length-homes header.homes) in
    let behind_homes = zero_bytes (7664 - 8 * length header.homes) in
    puts ∙ (λ i. (kept i ++ homes) ++ left i)
    ∙ ap (λ (l : List ℕ). l ++ behind_homes) (append_assoc (take 512 old) head homes)
    ∙ append_assoc (take 512 old) (head ++ homes) behind_homes

-- the page that is written has the header
pub header_written : (old new : List ℕ) (header : Header) → length old ≡ 8192 → new ≡ take 512 old ++ header_bytes header → IsSayable header → ArePlaces header.homes (length header.homes) → IsHeader new header
header_written old new header whole is sayable places =
    subst (λ (l : List ℕ). IsHeader l header) (sym is) (header_there (take 512 old) header (omega (arith, length-take 512 old)) sayable places)

-- a loop that puts homes is done
pub all_put : (old new : List ℕ) (number i : ℕ) (homes : List Home) → length old ≡ 8192 → length homes ≤ group_images → length homes ≤ i → new ≡ overwritten (begun old number (length homes)) 528 (flat_map home_bytes (take i homes))
    → new ≡ take 512 old ++ header_bytes (record { number = number; homes = homes })
all_put old new number i homes whole most all puts =
    header_put old new (record { number = number; homes = homes }) whole most (puts ∙ ap (λ (l : List Home). overwritten (begun old number (length homes)) 528 (flat_map home_bytes l)) (take_all i homes all))

pub homes_push_to : (bytes : List ℕ) (i : ℕ) (homes new : List Home) (home : Home) → AreHomesOf bytes i homes → IsHomeAt bytes (528 + 8 * i) home → new ≡ homes ++ home ∷ [] → AreHomesOf bytes (i + 1) new
homes_push_to bytes i homes new home were here is = (
  omega (arith, ap length is, length-append homes (home ∷ []), were.0),
  subst (AreHomesAt bytes 528) (sym is) (homes_push bytes 528 homes home were.1 (subst (λ (n : ℕ). IsHomeAt bytes (528 + 8 * n) home) (sym were.0) here)),
)
