-- A point has room for its state, as nothing between two entries takes more.
use Rattle.std.proofs.Common.{◌≡◌, ◌∙◌, ℕ, ◌+◌, ◌*◌, ◌≤◌, false, cond, max, List, length, Option, Some, None, refl, sym, ap, subst, arith}
use Rattle.std.proofs.lemmas.List.{length-map}
use Rattle.std.specs.List.{sum_by}
use Rattle.std.specs.Option.{is_some, option_map, option_map_or}
use Rattle.std.specs.Cmp.{nat_cmp_total}
use Rattle.std.specs.FinMap as map
use Rattle.fileset_model.specs.Filesets.{FilesetMap}
use Rattle.fileset_model.specs.fileset_values.Orders.{Name, name_cmp-total, name_cmp-IsAntisymmetric}
use Rattle.fileset_model.specs.fileset_values.declared.command.Command.{Command}
use Rattle.fileset_model.specs.fileset_values.declared.entry.Entry.{Entry}
use Rattle.fileset_model.specs.declared.fileset.FilesetSlot.{FilesetSlot}
use Rattle.legal_histories.specs.Legal.{Chain}
use Rattle.legal_histories.specs.Legal.Chain.{stays, begin, silent, entry}
use Rattle.legal_histories.specs.Marks.{GainsMarks, SlotGains}
use Rattle.legal_histories.specs.Point.{Answered, Point, start_point}
use Rattle.legal_histories.specs.Room.{page_count, path_count, present_pages, room}
use Rattle.legal_histories.specs.State.{Member, State}
use Rattle.legal_histories.specs.Step.{Silent}
use Rattle.legal_histories.specs.Step.Silent.{marks, closes, log_leaves, upgrades}
use Rattle.legal_histories.specs.Volumes.{with_open}
use Rattle.legal_histories.specs.GoingOn.{ComesTo}
use Rattle.legal_histories.proofs.SumLemmas.{same_sums}

-- ---- filesets that gain marks take as much

abbrev pages_in : FilesetSlot → ℕ
pages_in slot = sum_by page_count (map.values slot.tree.nodes)

abbrev paths_in : FilesetSlot → ℕ
paths_in slot = map.len slot.tree.paths

module _ (Allowed : Name → FilesetSlot → ℕ → Type 0) where
  pages_stay : (found other : Option FilesetSlot) → SlotGains Allowed found other → option_map pages_in found ≡ option_map pages_in other
  pages_stay None other gains = ap (option_map pages_in) (sym gains)
  pages_stay (Some slot) None gains = absurd gains
  pages_stay (Some slot) (Some now) gains = ap (λ t. Some (sum_by page_count (map.values t.nodes))) (sym gains.0)

  paths_stay : (found other : Option FilesetSlot) → SlotGains Allowed found other → option_map paths_in found ≡ option_map paths_in other
  paths_stay None other gains = ap (option_map paths_in) (sym gains)
  paths_stay (Some slot) None gains = absurd gains
  paths_stay (Some slot) (Some now) gains = ap (λ t. Some (map.len t.paths)) (sym gains.0)

  marked_pages : (old new : FilesetMap) → GainsMarks Allowed old new → present_pages old ≡ present_pages new
  marked_pages old new gains = same_sums name_cmp-total name_cmp-IsAntisymmetric pages_in (map.len old) old new refl (λ name. pages_stay (map.get old name) (map.get new name) (gains name))

  marked_paths : (old new : FilesetMap) → GainsMarks Allowed old new → path_count old ≡ path_count new
  marked_paths old new gains = same_sums name_cmp-total name_cmp-IsAntisymmetric paths_in (map.len old) old new refl (λ name. paths_stay (map.get old name) (map.get new name) (gains name))

-- ---- what happens between entries

-- a volume that is closed is a member still
same_members : (vol : ℕ) (s : State) → room (with_open false vol s) ≡ room s
same_members vol s = by_member (map.get s.members vol) refl
  where
    by_member : (found : Option Member) → map.get s.members vol ≡ found → room (option_map_or (λ (member : Member). record s { members = map.insert s.members vol (record member { is_open = false }) }) found s) ≡ room s
    by_member None is = refl
    by_member (Some member) is =
        ap (λ n. 3 * present_pages s.filesets + 4 * path_count s.filesets + 64 * n + 512)
        (map.len-insert nat_cmp_total s.members vol (record member { is_open = false }) ∙ ap (λ (found : Option Member). cond (is_some found) (map.len s.members) (map.len s.members + 1)) is)

silent_room : (point : Point) (new : State) → Silent point new → room new ≡ room point.state
silent_room point new (marks gains tight rest) =
    let s = point.state in
    let pages = marked_pages _ s.filesets new.filesets gains in
    let paths = marked_paths _ s.filesets new.filesets gains in
    ap room rest ∙ (λ i. 3 * sym pages i + 4 * sym paths i + 64 * map.len s.members + 512)
silent_room point new (closes vol removing rest) = ap room rest ∙ same_members vol point.state
silent_room point new (log_leaves vol other removing on differ is_open rest) = ap room rest
silent_room point new (upgrades runs rest) = ap room rest

-- ---- at a point

larger : (m n : ℕ) → n ≤ max m n
larger m n = omega arith

has_room : (start point : Point) → room start.state ≤ start.most → Chain start point → room point.state ≤ point.most
has_room start _ least stays = least
has_room start _ least (begin chain none command movers) = has_room start _ least chain
has_room start _ least (silent {point} chain new happens) =
    subst (λ n. n ≤ point.most) (sym (silent_room point new happens)) (has_room start point least chain)
has_room start _ least (entry {point} chain e new follows step) = larger point.most (room new)

pub comes_with_room : (start : State) (history : List Entry) (job : Option Command) (point : Point) → ComesTo start history job point → room point.state ≤ point.most
comes_with_room start history job point comes = has_room (start_point start) point (omega arith) comes.chain

pub comes_with_entries : (start : State) (history : List Entry) (job : Option Command) (point : Point) → ComesTo start history job point → length point.past ≡ length history
comes_with_entries start history job point comes = sym (length-map point.past (λ (a : Answered). a.entry)) ∙ ap length comes.answered
