-- What stands at a volume's number, in a rack and in a member list.
use Rattle.std.proofs.Common.{◌≡◌, ℕ, suc, zero, ◌+◌, ◌<◌, ◌≤◌, ◌==◌, ◌≢◌, nat_lt, Bool, true, false, cond, not, ◌&&◌, List, [], ◌∷◌, length, map, filter, get_or, drop, T, Some, None, refl, ap, sym, subst, ◌∙◌, arith}
use Rattle.std.proofs.lemmas.Bool.Decides.{nat_tests}
use Rattle.std.proofs.lemmas.List.{drop_all, drop_more, length-map}
use Rattle.std.specs.List.{enumerate_from}
use Rattle.std.specs.declared.cmp.Ordering.TheVariants.{Less, Equal, Greater}
use Rattle.std.specs.Ordering.{nat_cmp, is_eq, is_lt, eq_by_cmp}
use Rattle.std.specs.FinMap as map_of
use Rattle.std.specs.FinMap.Entries.{below_all, find, is_sorted}
use Rattle.legal_histories.specs.fileset_values.declared.reply.VolumeItem.{VolumeItem}
use Rattle.std.specs.Prelude.{All, IsSomeAnd, Option}
use Rattle.legal_histories.specs.State.{Member, MemberMap, State, rack_of}
use Rattle.legal_histories.specs.Volumes.{ShowsMembers, open_members}
use Rattle.plain_program.specs.Members.{AddsUp, Rises, entries_of, member_of, members_of}

both : (a b : Bool) → T a → T b → T (a && b)
both true b p q = q
both false b p q = absurd p

is_less : (m n : ℕ) → m < n → T (is_lt (nat_cmp m n))
is_less m n h =
    let less : nat_lt m n ≡ true = grind (arith, nat_tests) in
    rw less tt

below-enumerate : {X : Type 0} (k n : ℕ) (xs : List X) → k < n → T (below_all nat_cmp k (enumerate_from n xs))
below-enumerate k n [] h = tt
below-enumerate k n (x ∷ xs) h = both _ _ (is_less k n h) (below-enumerate k (n + 1) xs (omega (arith, h)))

is_sorted-enumerate : {X : Type 0} (n : ℕ) (xs : List X) → T (is_sorted nat_cmp (enumerate_from n xs))
is_sorted-enumerate n [] = tt
is_sorted-enumerate n (x ∷ xs) = both _ _ (below-enumerate n (n + 1) xs (omega arith)) (is_sorted-enumerate (n + 1) xs)

tail_rises : (line next : VolumeItem) (lines : List VolumeItem) → Rises (line ∷ next ∷ lines) → Rises (next ∷ lines)
tail_rises line next lines r k d within =
    let one_more : suc k + 1 ≡ suc (k + 1) = omega arith in
    subst (λ n. (get_or (next ∷ lines) k d).vol < (get_or (line ∷ next ∷ lines) n d).vol) one_more (r (suc k) d (omega (arith, within)))

below-lines : (vol : ℕ) (line : VolumeItem) (lines : List VolumeItem) → vol < line.vol → Rises (line ∷ lines) → T (below_all nat_cmp vol (entries_of (line ∷ lines)))
below-lines vol line [] h r = both _ _ (is_less vol line.vol h) tt
below-lines vol line (next ∷ lines) h r =
    let after : line.vol < next.vol = r 0 line (omega arith) in
    both _ _ (is_less vol line.vol h) (below-lines vol next lines (omega (arith, h, after)) (tail_rises line next lines r))

pub is_sorted-lines : (lines : List VolumeItem) → Rises lines → T (is_sorted nat_cmp (entries_of lines))
is_sorted-lines [] r = tt
is_sorted-lines (line ∷ []) r = tt
is_sorted-lines (line ∷ next ∷ lines) r =
    let after : line.vol < next.vol = r 0 line (omega arith) in
    let rest = tail_rises line next lines r in
    both _ _ (below-lines line.vol next lines after rest) (is_sorted-lines (next ∷ lines) rest)

pub get-members : (lines : List VolumeItem) (vol : ℕ) → Rises lines → map_of.get (members_of lines) vol ≡ find nat_cmp vol (entries_of lines)
get-members lines vol r = map_of.get-from_sorted nat_cmp (entries_of lines) vol (is_sorted-lines lines r)

pub len-members : (lines : List VolumeItem) → Rises lines → map_of.len (members_of lines) ≡ length lines
len-members lines r =
    map_of.len-entries _ ∙ ap length (map_of.entries-from_sorted nat_cmp (entries_of lines) (is_sorted-lines lines r)) ∙ length-map lines (λ line. (line.vol, member_of line))

counted : (lines : List VolumeItem) → length (filter (λ (m : Member). m.is_open) (map (λ (e : ℕ × Member). e.1) (entries_of lines))) ≡ length (filter (λ (line : VolumeItem). not line.closed) lines)
counted [] = refl
counted (line ∷ lines) =
    let rest = counted lines in
    elim (not line.closed) as (λ b. length (cond b (member_of line ∷ filter (λ (m : Member). m.is_open) (map (λ (e : ℕ × Member). e.1) (entries_of lines))) (filter (λ (m : Member). m.is_open) (map (λ (e : ℕ × Member). e.1) (entries_of lines)))) ≡ length (cond b (line ∷ filter (λ (l : VolumeItem). not l.closed) lines) (filter (λ (l : VolumeItem). not l.closed) lines))) [
      | true ↦ ap suc rest
      | false ↦ rest
    ]

pub open-members : (lines : List VolumeItem) → Rises lines → length (open_members (members_of lines)) ≡ length (filter (λ line. not line.closed) lines)
open-members lines r =
    ap (λ (es : List (ℕ × Member)). length (filter (λ (m : Member). m.is_open) (map (λ (e : ℕ × Member). e.1) es))) (map_of.entries-from_sorted nat_cmp (entries_of lines) (is_sorted-lines lines r))
    ∙ counted lines

pub tied : (n : ℕ) → eq_by_cmp nat_cmp n n ≡ true
tied n =
    let not_less : nat_lt n n ≡ false = grind (arith, nat_tests) in
    let same : (n == n) ≡ true = grind (arith, nat_tests) in
    rw (not_less, same)

pub apart : (m n : ℕ) → m ≢ n → eq_by_cmp nat_cmp m n ≡ false
apart m n h =
    let not_same : (m == n) ≡ false = grind (arith, nat_tests) in
    elim (nat_lt m n) as (λ b. is_eq (cond b Less (cond (m == n) Equal Greater)) ≡ false) [
      | true ↦ refl
      | false ↦ rw not_same
    ]

-- the line of a volume is found where it stands
pub find-line : (lines : List VolumeItem) (i vol : ℕ) (d : VolumeItem) → i < length lines → (get_or lines i d).vol ≡ vol → find nat_cmp vol (entries_of (drop i lines)) ≡ Some (member_of (get_or lines i d))
find-line lines i vol d h is =
    let line = get_or lines i d in
    ap (λ (l : List VolumeItem). find nat_cmp vol (entries_of l)) (drop_more lines i d h)
    ∙ ap (λ (b : Bool). cond b (Some (member_of line)) (find nat_cmp vol (entries_of (drop (i + 1) lines)))) (ap (eq_by_cmp nat_cmp vol) is ∙ tied vol)

pub find-no_line : (lines : List VolumeItem) (i vol : ℕ) → length lines ≤ i → find nat_cmp vol (entries_of (drop i lines)) ≡ None
find-no_line lines i vol h = ap (λ (l : List VolumeItem). find nat_cmp vol (entries_of l)) (drop_all i lines h)

below-rack : (xs : List ℕ) (n vol : ℕ) → vol < n → find nat_cmp vol (enumerate_from n xs) ≡ None
below-rack [] n vol h = refl
below-rack (x ∷ xs) n vol h =
    ap (λ b. cond b (Some x) (find nat_cmp vol (enumerate_from (n + 1) xs))) (apart vol n (omega (arith, h))) ∙ below-rack xs (n + 1) vol (omega (arith, h))

past-rack : (xs : List ℕ) (n vol : ℕ) → n + length xs ≤ vol → find nat_cmp vol (enumerate_from n xs) ≡ None
past-rack [] n vol h = refl
past-rack (x ∷ xs) n vol h =
    ap (λ b. cond b (Some x) (find nat_cmp vol (enumerate_from (n + 1) xs))) (apart vol n (omega (arith, h))) ∙ past-rack xs (n + 1) vol (omega (arith, h))

in-rack : (xs : List ℕ) (n vol i d : ℕ) → n + i ≡ vol → i < length xs → find nat_cmp vol (enumerate_from n xs) ≡ Some (get_or xs i d)
in-rack [] n vol i d is h = absurd (omega (arith, h))
in-rack (x ∷ xs) n vol zero d is h =
    let same : n ≡ vol = omega (arith, is) in
    ap (λ b. cond b (Some x) (find nat_cmp vol (enumerate_from (n + 1) xs))) (ap (eq_by_cmp nat_cmp vol) same ∙ tied vol)
in-rack (x ∷ xs) n vol (suc i) d is h =
    ap (λ b. cond b (Some x) (find nat_cmp vol (enumerate_from (n + 1) xs))) (apart vol n (omega (arith, is)))
    ∙ in-rack xs (n + 1) vol i d (omega (arith, is)) (omega (arith, h))

get-rack : (sizes : List ℕ) (vol : ℕ) → map_of.get (rack_of sizes) vol ≡ find nat_cmp vol (enumerate_from 1 sizes)
get-rack sizes vol = map_of.get-from_sorted nat_cmp (enumerate_from 1 sizes) vol (is_sorted-enumerate 1 sizes)

pub get-rack_before : (sizes : List ℕ) (vol : ℕ) → vol < 1 → map_of.get (rack_of sizes) vol ≡ None
get-rack_before sizes vol h = get-rack sizes vol ∙ below-rack sizes 1 vol h

pub get-rack_past : (sizes : List ℕ) (vol : ℕ) → length sizes < vol → map_of.get (rack_of sizes) vol ≡ None
get-rack_past sizes vol h = get-rack sizes vol ∙ past-rack sizes 1 vol (omega (arith, h))

pub get-rack_at : (sizes : List ℕ) (vol i d : ℕ) → 1 + i ≡ vol → i < length sizes → map_of.get (rack_of sizes) vol ≡ Some (get_or sizes i d)
get-rack_at sizes vol i d is h = get-rack sizes vol ∙ in-rack sizes 1 vol i d is h

-- a line's volume is below those of the lines after it
below-later : (line : VolumeItem) (lines : List VolumeItem) (i : ℕ) (d : VolumeItem) → Rises (line ∷ lines) → i < length lines → line.vol < (get_or lines i d).vol
below-later line [] i d r h = absurd (omega (arith, h))
below-later line (next ∷ lines) zero d r h = r 0 line (omega arith)
below-later line (next ∷ lines) (suc i) d r h =
    let after : line.vol < next.vol = r 0 line (omega arith) in
    let rest = below-later next lines i d (tail_rises line next lines r) (omega (arith, h)) in
    omega (arith, after, rest)

rises-tail : (line : VolumeItem) (lines : List VolumeItem) → Rises (line ∷ lines) → Rises lines
rises-tail line [] r = λ k d within. absurd (omega (arith, within))
rises-tail line (next ∷ lines) r = tail_rises line next lines r

-- each line is that of its volume
find-itself : (lines : List VolumeItem) (i : ℕ) (d : VolumeItem) → Rises lines → i < length lines → find nat_cmp (get_or lines i d).vol (entries_of lines) ≡ Some (member_of (get_or lines i d))
find-itself [] i d r h = absurd (omega (arith, h))
find-itself (line ∷ lines) zero d r h = ap (λ (b : Bool). cond b (Some (member_of line)) (find nat_cmp line.vol (entries_of lines))) (tied line.vol)
find-itself (line ∷ lines) (suc i) d r h =
    let later = below-later line lines i d r (omega (arith, h)) in
    let vol = (get_or lines i d).vol in
    ap (λ (b : Bool). cond b (Some (member_of line)) (find nat_cmp vol (entries_of lines))) (apart vol line.vol (λ e. absurd (omega (arith, later, e))))
    ∙ find-itself lines i d (rises-tail line lines r) (omega (arith, h))

volumes_of : (lines : List VolumeItem) → map (λ (line : VolumeItem). line.vol) lines ≡ map (λ (e : ℕ × Member). e.0) (entries_of lines)
volumes_of [] = refl
volumes_of (line ∷ lines) = ap (λ (l : List ℕ). line.vol ∷ l) (volumes_of lines)

module _ (s : State) (lines : List VolumeItem) (r : Rises lines) (same : s.members ≡ members_of lines) where
  pub shows : All (AddsUp s.log_volume) lines → ShowsMembers s lines
  shows each = record {
    volumes = volumes_of lines ∙ sym (ap (λ (m : MemberMap). map_of.keys m) same ∙ ap (map (λ (e : ℕ × Member). e.0)) (map_of.entries-from_sorted nat_cmp (entries_of lines) (is_sorted-lines lines r)));
    each = λ k d within. record {
      member = subst (λ (found : Option Member). IsSomeAnd found (λ member. ((get_or lines k d).pages ≡ member.pages) × ((get_or lines k d).closed ≡ not member.is_open)))
          (sym (ap (λ (m : MemberMap). map_of.get m (get_or lines k d).vol) same ∙ get-members lines (get_or lines k d).vol r ∙ find-itself lines k d r within))
          (refl, sym (twice (get_or lines k d).closed));
      counts = (each k d within).0;
      log = (each k d within).1;
    };
  }
    where
      twice : (b : Bool) → not (not b) ≡ b
      twice true = refl
      twice false = refl
