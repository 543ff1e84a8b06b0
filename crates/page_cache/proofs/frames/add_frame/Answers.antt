use Rattle.std.proofs.Common.{rules, ◌≡◌, ◌∙◌, ◌+◌, true, false, refl, nat_lt, Some, sym, subst, nat_eq, arith, length}
use Rattle.lru.specs.LruCache.{lru_cache, put_entries}
use Rattle.page_cache.specs.Entries.{Becomes, Displaces, Entries, clean_in, frame_at, groups_in}
use Rattle.page_cache.proofs.Entries.{added, added_groups, added_parts, displaced, displaced_groups, displaced_parts, none_is}
use Rattle.page_cache.proofs.frames.add_frame.Goals as goal

pub returns-in-Ok-clause-adds : goal.returns-in-Ok-clause-adds
returns-in-Ok-clause-adds c fits =
    let old = c.args.frames.now in
    let none = none_is (frame_at old.entries c.args.number) c.requires.new in
    let is : c.put.new.self.entries ≡ put_entries nat_eq (lru_cache old.entries old.cap) c.args.number c.args.frame = search rules in
    subst (λ (l : Entries). Becomes c.args.number (Some c.args.frame) old.entries l) (sym is) (added c.args.number old.entries c.len.ensures.valid.0 c.args.frame old.cap none (rw c.requires.cap fits))

pub returns-in-Ok-clause-displaces : goal.returns-in-Ok-clause-displaces
returns-in-Ok-clause-displaces c full =
    let old = c.args.frames.now in
    let none = none_is (frame_at old.entries c.args.number) c.requires.new in
    let is : c.put.new.self.entries ≡ put_entries nat_eq (lru_cache old.entries old.cap) c.args.number c.args.frame = search rules in
    subst (λ (l : Entries). Displaces c.args.number c.args.frame old.entries l) (sym is) (displaced c.args.number c.args.frame old.entries old.cap c.len.ensures.valid.0 none (full ∙ sym c.requires.cap) (omega (arith, c.requires.cap)) (c.requires.last full))

pub returns-in-Ok-clause-groups : goal.returns-in-Ok-clause-groups
returns-in-Ok-clause-groups c q =
    let old = c.args.frames.now.entries in
    let new = c.put.new.self.entries in
    let none = none_is (frame_at old c.args.number) c.requires.new in
    let valid = c.len.ensures.valid.1 in
    (elim (nat_lt (length old) 1024) as (λ b. nat_lt (length old) 1024 ≡ b → groups_in new q ≡ groups_in old q) [
      | true ↦ λ t. added_groups c.args.number c.args.frame old new c.requires.clean none (returns-in-Ok-clause-adds c (grind (arith, t))) q
      | false ↦ λ t. displaced_groups c.args.number c.args.frame old new c.requires.clean none (returns-in-Ok-clause-displaces c (grind (arith, t, valid, c.requires.cap))) q
    ]) refl

pub returns-in-Ok-clause-parts : goal.returns-in-Ok-clause-parts
returns-in-Ok-clause-parts c =
    let old = c.args.frames.now.entries in
    let new = c.put.new.self.entries in
    let none = none_is (frame_at old c.args.number) c.requires.new in
    let valid = c.len.ensures.valid.1 in
    (elim (nat_lt (length old) 1024) as (λ b. nat_lt (length old) 1024 ≡ b → length (clean_in new) + length old ≡ length (clean_in old) + length new) [
      | true ↦ λ t. added_parts c.args.number c.args.frame old new c.requires.clean none (returns-in-Ok-clause-adds c (grind (arith, t)))
      | false ↦ λ t. displaced_parts c.args.number c.args.frame old new c.requires.clean none (returns-in-Ok-clause-displaces c (grind (arith, t, valid, c.requires.cap)))
    ]) refl
