-- Which numbers may stand in a field, by the fields before it.
use Rattle.std.specs.Prelude.{ℕ, zero, suc, ◌+◌, Bool, true, false, ◌&&◌, ◌||◌, nat_le, nat_lt, ◌==◌, if◌then◌else◌, List, [], ◌∷◌, ◌++◌, length, drop, get_or, Result, Ok, Err}
use Rattle.std.specs.List.{list_all}
use Rattle.byteorder.specs.Endian.{little_number}
use Rattle.cell_records.specs.declared.rule.Rule.{Rule}
use Rattle.cell_records.specs.declared.rule.Rule.TheVariants.{Any, Range, Volume, IfUsed, Page, Count}
use Rattle.cell_records.specs.declared.rule.Seen.{Seen}

abbrev pub exactly : ℕ → Rule
exactly n = Range n n

-- the start, with no field before it
abbrev pub nothing_seen : Seen
nothing_seen = record { from = 0; page = 0; used = false }

-- whether the number may stand in the field
abbrev pub allows : Rule → Seen → ℕ → Bool
allows Any seen n = true
allows (Range least most) seen n = nat_le least n && nat_le n most
allows Volume seen n = nat_le n 8
allows (IfUsed most) seen n = (n == 0) || (seen.used && nat_le n most)
allows Page seen n = (n == 0) || (nat_le seen.from n && nat_lt n 65536)
allows Count seen n = if n == 0 then seen.page == 0
    else (nat_le seen.from seen.page && nat_le (seen.page + n) 65536)

-- what the fields after it have to know
abbrev pub after : Rule → Seen → ℕ → Seen
after Any seen n = seen
after (Range least most) seen n = seen
after Volume seen n = record seen { used = nat_lt 0 n }
after (IfUsed most) seen n = seen
after Page seen n = record seen { page = n }
after Count seen n = if n == 0 then record { from = 65536; page = 0; used = false }
    else record { from = seen.page + n; page = 0; used = true }

-- Where fields of these widths and rules end, or the start of the first that the bytes do not fill
-- as they should. Nothing fills a field without a rule.
unfoldable pub scan : List ℕ → List Rule → Seen → List ℕ → ℕ → Result ℕ ℕ
scan [] rs seen bytes at = Ok at
scan (w ∷ ws) [] seen bytes at = Err at
scan (w ∷ ws) (r ∷ rs) seen bytes at =
    if nat_lt (length bytes) w then Err at
    else (if allows r seen (little_number w bytes)
    then scan ws rs (after r seen (little_number w bytes)) (drop w bytes) (at + w) else Err at)

-- widths of fields that hold numbers of up to 64 bits
abbrev pub are_widths : List ℕ → Bool
are_widths ws = list_all (λ w. nat_le 1 w && nat_le w 8) ws

abbrev pub repeated_rules : ℕ → List Rule → List Rule
repeated_rules zero rs = []
repeated_rules (suc n) rs = rs ++ repeated_rules n rs

abbrev pub extent_rules : List Rule
extent_rules = Page ∷ Count ∷ IfUsed 4294967295 ∷ IfUsed 4294967295 ∷ []

abbrev pub dense_rules : List Rule
dense_rules = Page ∷ Count ∷ IfUsed 255 ∷ exactly 0 ∷ exactly 0 ∷ IfUsed 4294967295 ∷ []

abbrev pub hole_rules : List Rule
hole_rules = Page ∷ Count ∷ []

-- the rules of a record of that kind and size, its head's among them
abbrev pub with_head_rules : ℕ → ℕ → List Rule → List Rule
with_head_rules kind size rs = exactly kind ∷ exactly 0 ∷ exactly size ∷ rs

-- the rules of each kind's fields, by its number
abbrev pub rule_lists : List (List Rule)
rule_lists =
    []
    ∷ with_head_rules 1 52 (Range 1 2 ∷ Any ∷ Any ∷ Range 0 1 ∷ Any ∷ Any ∷ Range 1 1000 ∷ Any
    ∷ Any ∷ [])
    ∷ with_head_rules 2 20 (exactly 0 ∷ Volume ∷ IfUsed 27 ∷ IfUsed 4294967295 ∷ Any ∷ exactly 0
    ∷ [])
    ∷ with_head_rules 3 260 (repeated_rules 16 extent_rules)
    ∷ with_head_rules 4 68 (repeated_rules 4 extent_rules)
    ∷ with_head_rules 5 132 (repeated_rules 16 hole_rules)
    ∷ with_head_rules 6 12 (Range 1 2 ∷ exactly 0 ∷ [])
    ∷ with_head_rules 7 28 (Any ∷ exactly 0 ∷ Any ∷ Any ∷ [])
    ∷ with_head_rules 8 28 (Any ∷ exactly 0 ∷ Any ∷ Any ∷ [])
    ∷ with_head_rules 9 20 (Range 1 8 ∷ Any ∷ Any ∷ exactly 0 ∷ [])
    ∷ with_head_rules 10 12 (Any ∷ Any ∷ exactly 0 ∷ [])
    ∷ with_head_rules 11 16 (Any ∷ Any ∷ exactly 0 ∷ repeated_rules 8 (Any ∷ []))
    ∷ with_head_rules 12 16 (Any ∷ Any ∷ Any ∷ [])
    ∷ with_head_rules 13 268 (repeated_rules 22 dense_rules)
    ∷ with_head_rules 14 52 (repeated_rules 4 dense_rules)
    ∷ []

abbrev pub rules_of : ℕ → List Rule
rules_of kind = get_or rule_lists kind []
