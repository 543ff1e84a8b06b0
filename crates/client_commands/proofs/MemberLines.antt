-- A line for each member shows the members of a state.
use Rattle.std.proofs.Common.{◌≡◌, ◌∙◌, ◌++◌, ◌+◌, ◌≤◌, ◌==◌, ℕ, All, true, not, IsSomeAnd, List, [], ◌∷◌, Option, Some, None, map, is_some, refl, sym, ap, subst, arith, eqb-true, eq-eqb, true≢false, ⊎_elim}
use Rattle.std.proofs.lemmas.Bool.{cases_lt}
use Rattle.std.proofs.lemmas.List.{map-append}
use Rattle.std.proofs.lemmas.List.Elements.{All-nil, All-push, All-weaker}
use Rattle.std.specs.FinMap as maps
use Rattle.std.specs.FinMap.{get}
use Rattle.file_commands.specs.fileset_values.declared.reply.VolumeItem.{VolumeItem}
use Rattle.file_commands.specs.free_space.Spaces.{held_pages, volume_of}
use Rattle.file_commands.specs.legal_histories.State.{Member, State}
use Rattle.file_commands.specs.legal_histories.Volumes.{ShowsMember, ShowsMembers}
use Rattle.file_commands.specs.domain_memory.declared.memory.DomainMemory.{DomainMemory}
use Rattle.file_commands.specs.log_ring.Homes.{IsMember, member_of}
use Rattle.file_commands.specs.domain_state.Opening.{HasVolumesOf}
use Rattle.client_commands.specs.Shown.{AreHeld}
use Rattle.client_commands.proofs.Rising.{Rises, has, has_last, has_pushed, has_still, keys_rise, one_list, rises_pushed}

-- ---- a member of a state

module _ (memory : DomainMemory) where
  -- so a member is in a state with the members of the domain
  pub member_is : (s : State) → HasVolumesOf memory.frame.anchor s → (vol : ℕ) → IsMember memory.frame.anchor vol
      → get s.members vol ≡ Some (record { pages = (member_of memory.frame.anchor vol).pages; is_open = (member_of memory.frame.anchor vol).state == 1 })
  member_is s has_volumes vol there = (has_volumes.members vol _).1 (record {
    there = there;
    pages = refl;
    opened = (eqb-true (member_of memory.frame.anchor vol).state 1, eq-eqb (member_of memory.frame.anchor vol).state 1);
  })

  pub line_shows : (line : VolumeItem) → IsMember memory.frame.anchor line.vol → line.pages ≡ (member_of memory.frame.anchor line.vol).pages → line.closed ≡ not ((member_of memory.frame.anchor line.vol).state == 1)
      → line.used + line.free ≡ line.pages → line.has_log ≡ (line.vol == memory.frame.anchor.log_vol) → (s : State) → HasVolumesOf memory.frame.anchor s → ShowsMember s line
  line_shows line there pages closed counts log s has_volumes = record {
    member = subst (λ (o : Option Member). IsSomeAnd o (λ member. (line.pages ≡ member.pages) × (line.closed ≡ not member.is_open))) (sym (member_is s has_volumes line.vol there)) (pages, closed);
    counts = counts;
    log = log ∙ ap (λ n. line.vol == n) (sym has_volumes.log_volume);
  }

-- ---- a line for each

abbrev pub vols : List VolumeItem → List ℕ
vols lines = map (λ line. line.vol) lines

pub record IsLineOf (memory : DomainMemory) (line : VolumeItem) : Type 0 where
  pub shown : (s : State) → HasVolumesOf memory.frame.anchor s → ShowsMember s line
  pub held : line.used ≡ held_pages (volume_of memory.space line.vol)

-- so it is of those with no greater numbers
pub record AreLines (memory : DomainMemory) (n : ℕ) (lines : List VolumeItem) : Type 0 where
  pub rises : Rises 0 (vols lines)
  pub within : (q : ℕ) → has q (vols lines) ≡ true → IsMember memory.frame.anchor q × (q ≤ n)
  pub all : (q : ℕ) → IsMember memory.frame.anchor q → q ≤ n → has q (vols lines) ≡ true
  pub each : All (IsLineOf memory) lines

module _ (memory : DomainMemory) where
  pub no_lines : AreLines memory 0 []
  no_lines = record {
    rises = tt;
    within = λ q is. absurd (true≢false (sym is));
    all = λ q there low. absurd (omega (arith, there.first, low));
    each = All-nil (IsLineOf memory);
  }

  module _ (n : ℕ) (lines : List VolumeItem) (are : AreLines memory n lines) where
    pub none_more : ¬ IsMember memory.frame.anchor (n + 1) → AreLines memory (n + 1) lines
    none_more none = record {
      rises = are.rises;
      within = λ q is. let w = are.within q is in (w.0, omega (arith, w.1));
      all = λ q there low. ⊎_elim
          (λ less. are.all q there (omega (arith, less)))
          (λ more. let last : q ≡ n + 1 = omega (arith, more, low) in absurd (none (subst (IsMember memory.frame.anchor) last there)))
          (cases_lt q (n + 1));
      each = are.each;
    }

    pub one_more : (line : VolumeItem) → line.vol ≡ n + 1 → IsMember memory.frame.anchor (n + 1) → IsLineOf memory line → AreLines memory (n + 1) (lines ++ line ∷ [])
    one_more line vol there is = record {
      rises = subst (Rises 0) (sym vols_are) (rises_pushed 0 line.vol (vols lines) are.rises (omega (arith, vol)) (λ q in_it. let w = are.within q in_it in omega (arith, w.1, vol)));
      within = λ q in_it. ⊎_elim
          (λ old. let w = are.within q old in (w.0, omega (arith, w.1)))
          (λ last. let here : q ≡ n + 1 = last ∙ vol in (subst (IsMember memory.frame.anchor) (sym here) there, omega (arith, here)))
          (has_pushed q line.vol (vols lines) (ap (has q) (sym vols_are) ∙ in_it));
      all = λ q member low. ap (has q) vols_are ∙ ⊎_elim
          (λ less. has_still q line.vol (vols lines) (are.all q member (omega (arith, less))))
          (λ more. let last : line.vol ≡ q = omega (arith, more, low, vol) in subst (λ m. has m (vols lines ++ line.vol ∷ []) ≡ true) last (has_last line.vol (vols lines)))
          (cases_lt q (n + 1));
      each = All-push (IsLineOf memory) lines line are.each is;
    }
      where
        vols_are : vols (lines ++ line ∷ []) ≡ vols lines ++ line.vol ∷ []
        vols_are = map-append (λ (x : VolumeItem). x.vol) lines (line ∷ [])

  module _ (lines : List VolumeItem) (are : AreLines memory 8 lines) where
    pub lines_show : (s : State) → HasVolumesOf memory.frame.anchor s → ShowsMembers s lines
    lines_show s has_volumes = record {
      volumes = one_list 0 (vols lines) (maps.keys s.members) are.rises (keys_rise 0 s.members (λ q is. (member q is).first)) (λ q is. key q (are.within q is).0) (λ q is. let m = member q is in are.all q m (omega (arith, m.last)));
      each = All-weaker (IsLineOf memory) (ShowsMember s) (λ line is. is.shown s has_volumes) lines are.each;
    }
      where
        key : (q : ℕ) → IsMember memory.frame.anchor q → has q (maps.keys s.members) ≡ true
        key q there = sym (maps.contains_key-keys s.members q) ∙ ap is_some (member_is memory s has_volumes q there)

        found : (q : ℕ) (o : Option Member) → get s.members q ≡ o → is_some o ≡ true → IsMember memory.frame.anchor q
        found q None at some = absurd (true≢false (sym some))
        found q (Some m) at some = ((has_volumes.members q m).0 at).there

        member : (q : ℕ) → has q (maps.keys s.members) ≡ true → IsMember memory.frame.anchor q
        member q is = found q (get s.members q) refl (maps.contains_key-keys s.members q ∙ is)

    pub lines_held : AreHeld memory lines
    lines_held = All-weaker (IsLineOf memory) (λ line. line.used ≡ held_pages (volume_of memory.space line.vol)) (λ line is. is.held) lines are.each
