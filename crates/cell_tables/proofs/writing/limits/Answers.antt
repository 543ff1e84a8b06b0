use Rattle.std.proofs.Common.{◌≡◌, ◌^◌, ◌<◌, ◌≤◌, ◌++◌, ◌∷◌, [], ℕ, List, length, lit<, sym, subst, arith, length-append, ◌∙◌, ap}
use Rattle.free_cells.specs.cell_records.declared.record.Record.{Record}
use Rattle.free_cells.specs.cell_records.declared.record.Record.TheVariants.{UserQuota, GroupQuota}
use Rattle.free_cells.specs.cell_records.Records.{Allowed, spelling}
use Rattle.free_cells.proofs.OfCellRecords.WholeRecord.{length-spelling}
use Rattle.free_cells.specs.metadata_cells.Cell.{AreRecords, spellings}
use Rattle.cell_tables.proofs.writing.limits.Goals as goal

user_allowed : (id : ℕ) → id < 2 ^ 32 → Allowed (UserQuota id 3 1024)
unfolding Allowed
user_allowed id fits = (fits, lit< tt, lit< tt)

group_allowed : (id : ℕ) → id < 2 ^ 32 → Allowed (GroupQuota id 0 (2 ^ 56))
unfolding Allowed
group_allowed id fits = (fits, lit< tt, lit< tt)

good : (user group : ℕ) → user < 2 ^ 32 → group < 2 ^ 32 → AreRecords (UserQuota user 3 1024 ∷ GroupQuota group 0 (2 ^ 56) ∷ [])
good user group user_fits group_fits = record {
  allowed = (user_allowed user user_fits, (group_allowed group group_fits, tt));
  rising = (omega arith, (omega arith, tt));
}

short : (user group : ℕ) → user < 2 ^ 32 → group < 2 ^ 32 → length (spellings (UserQuota user 3 1024 ∷ GroupQuota group 0 (2 ^ 56) ∷ [])) ≤ 272
short user group user_fits group_fits =
    let u = UserQuota user 3 1024 in
    let g = GroupQuota group 0 (2 ^ 56) in
    omega (arith, length-append (spelling u) (spelling g ++ []), length-append (spelling g) [], length-spelling u (user_allowed user user_fits), length-spelling g (group_allowed group group_fits))

-- the list that the pushes made
made : (user group : ℕ) (one two list : List Record) → one ≡ [] ++ UserQuota user 3 1024 ∷ [] → two ≡ one ++ GroupQuota group 0 (2 ^ 56) ∷ [] → list ≡ two → list ≡ UserQuota user 3 1024 ∷ GroupQuota group 0 (2 ^ 56) ∷ []
made user group one two list first second is = is ∙ second ∙ ap (λ (l : List Record). l ++ GroupQuota group 0 (2 ^ 56) ∷ []) first

pub returns-clause-good : goal.returns-clause-good
returns-clause-good c =
    let list = made c.args.user c.args.group _ _ _ (c.in_ok-push.ensures.items ∙ ap (λ (l : List Record). l ++ UserQuota c.args.user 3 1024 ∷ []) c.new-records.ensures.items) c.in_ok-push-2.ensures.items c.from_vec.ensures in
    subst AreRecords (sym list) (good c.args.user c.args.group c.ranges.user.fits c.ranges.group.fits)

pub returns-clause-fits : goal.returns-clause-fits
returns-clause-fits c =
    let list = made c.args.user c.args.group _ _ _ (c.in_ok-push.ensures.items ∙ ap (λ (l : List Record). l ++ UserQuota c.args.user 3 1024 ∷ []) c.new-records.ensures.items) c.in_ok-push-2.ensures.items c.from_vec.ensures in
    subst (λ l. length (spellings l) ≤ 272) (sym list) (short c.args.user c.args.group c.ranges.user.fits c.ranges.group.fits)
