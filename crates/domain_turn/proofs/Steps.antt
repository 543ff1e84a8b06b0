-- Each step keeps what holds of a turn.
use Rattle.std.proofs.Common.{◌≡◌, ◌≢◌, ℕ, suc, ◌+◌, ◌%◌, ◌^◌, ◌<◌, ◌≤◌, ◌==◌, Bool, true, false, cond, nat_lt, ◌&&◌, max, List, [], ◌∷◌, ◌++◌, length, set, slice_index, slice_set, Contains, Option, Some, None, is_some, ⊎_elim, refl, ap, sym, ◌∙◌, subst, arith, length-append, append_assoc, append-nil, MatchBool, eq-eqb, ne_eqb, eqb→eq}
use mathlib.Core.Option.{some, none, some-injective, some-ne-none}
use mathlib.Core.Option as maybe
use lib.ListN.{get_elem?}
use Rattle.std.proofs.lemmas.List.Elements.{Contains-append_cases, filter-append}
use mathlib.Core.Bool.{false≢true}
use native.Mathlib.Nat.{le-max_left, mod-add-mod, mod-eq_of_lt}
use native.Mathlib.Decide.{ℕ_discrete}
use mathlib.Core.Logic.{dite}
use lib.Seq.{set-get_or}
use base.Growing.{prefix_refl, prefix_trans}
use Rattle.atomic_table.specs.Table.{Act, Allows, Valid, carried_after, Joins, Me, Splits, State, gives, homes_after, keeps, step, stepped, takes}
use Rattle.atomic_table.proofs.Lists.{at_set, at_snoc, one_turn, set_again, set_else}
use Rattle.atomic_table.specs.Table.{rest}
use Rattle.fileset_values.specs.declared.command.Actor.{Actor}
use Rattle.fileset_values.specs.declared.command.Actor.TheVariants as actor
use Rattle.fileset_values.specs.declared.entry.Entry.{Entry}
use Rattle.domain_turn.specs.Kept.{IsShare, Kept, Knows, resting}
use Rattle.domain_turn.specs.Plays.{Finds, MayPut, added, draws, ends, first_of, holding, looks, notes, passes_on, puts, queued, rest_of, sees_committed, sees_durable, sees_ends, share_in, with_put, with_share, with_taken}
use Rattle.domain_turn.specs.Telling.{Telling}
use Rattle.domain_turn.specs.Views.{ends_in, entries_of, has_ticket, holds_in, is_actor, lefts_in, one_if, passes_in, times_in, total, waits_in}
use Rattle.domain_turn.specs.declared.view.Share.{Share}
use Rattle.domain_turn.specs.declared.view.Beginning.{Beginning}
use Rattle.domain_turn.specs.declared.view.View.{View}
use Rattle.domain_turn.proofs.Totals.{has_one, only_one, total_both, total_has, total_last, total_le, total_none, total_one, total_set, total_two}

both_true : (b c : Bool) → (b && c) ≡ true → c ≡ true
both_true true c is = is
both_true false c is = absurd (false≢true is)

number_is : (a b : ℕ) → (a == b) ≡ true → a ≡ b
number_is a b is = eqb→eq a b (subst lib.Dec.T (sym is) tt)

-- an entry is of one pass alone
one_actor : (a b : ℕ) (who : Actor) → is_actor a who ≡ true → is_actor b who ≡ true → a ≡ b
one_actor a b (actor.Client client) one two =
    let first = number_is client (a + 1) (both_true _ _ one) in let second = number_is client (b + 1) (both_true _ _ two) in omega (arith, first, second)
one_actor a b actor.Mover one two = number_is a 8 one ∙ sym (number_is b 8 two)

pub in_rest : {X : Type 0} (y : X) (xs : List X) (x : X) → Contains xs x → Contains (y ∷ xs) x
in_rest y xs x (k, low, is) = (suc k, omega (arith, low), is)

pub in_first : {X : Type 0} (x : X) (xs : List X) → Contains (x ∷ xs) x
in_first x xs = (0, omega arith, refl)

-- the entries of one pass are all its own
all_of : (a : ℕ) (entries : List Entry) → ((entry : Entry) → Contains entries entry → is_actor a entry.actor ≡ true) → entries_of a entries ≡ entries
all_of a [] of = refl
all_of a (entry ∷ entries) of = ap (λ (b : Bool). cond b (entry ∷ entries_of a entries) (entries_of a entries)) (of entry (in_first entry entries))
    ∙ ap (λ (rest : List Entry). entry ∷ rest) (all_of a entries (λ e there. of e (in_rest entry entries e there)))

-- and none is another's
none_of : (a b : ℕ) (entries : List Entry) → a ≢ b → ((entry : Entry) → Contains entries entry → is_actor a entry.actor ≡ true) → entries_of b entries ≡ []
none_of a b [] other of = refl
none_of a b (entry ∷ entries) other of = by_test (is_actor b entry.actor) refl (none_of a b entries other (λ e there. of e (in_rest entry entries e there)))
  where
    by_test : (t : Bool) → is_actor b entry.actor ≡ t → entries_of b entries ≡ [] → entries_of b (entry ∷ entries) ≡ []
    by_test true is rest = absurd (other (one_actor a b entry.actor (of entry (in_first entry entries)) is))
    by_test false is rest = ap (λ (t : Bool). cond t (entry ∷ entries_of b entries) (entries_of b entries)) is ∙ rest

pub one_at_most : (b : Bool) → one_if b ≤ 1
one_at_most true = omega arith
one_at_most false = omega arith

module _ {T : Type 0} (told : Telling T) (start : Beginning T) where
  abbrev S : Type 0
  S = State (Option T) (View T)

  abbrev V : Type 0
  V = View T

  abbrev M : Type 0
  M = Me (Option T) (View T)

  abbrev Rule : S → Type 0
  Rule = Kept told start

  abbrev n : ℕ
  n = length start.lefts.items

  abbrev begin : List Entry
  begin = told.history start.value.value

  -- all else stays where more lasts, more passes ended, and more tickets were drawn
  share_on : (value : T) (news : List Entry) (least least' ended ended' : ℕ) (share : Share) → least ≤ least' → ended ≤ ended'
      → IsShare told n begin value news least ended share → IsShare told n begin value news least' ended' share
  share_on value news least least' ended ended' share more later is = record {
    number = is.number;
    start = is.start;
    seen = is.seen;
    mine = is.mine;
    saw = is.saw;
    begun = is.begun;
    lasting = is.lasting;
    committed = is.committed;
    durable = let below = is.durable in omega (arith, below, more);
    ends = let below = is.ends in omega (arith, below, later);
  }

  knows_on : (value : T) (news : List Entry) (least least' ended ended' drawn drawn' served : ℕ) (view : V) → least ≤ least' → ended ≤ ended' → drawn ≤ drawn'
      → Knows told n begin value news least ended drawn served view → Knows told n begin value news least' ended' drawn' served view
  knows_on value news least least' ended ended' drawn drawn' served view more later further is = record {
    shares = λ share there. share_on value news least least' ended ended' share more later (is.shares share there);
    ticket = λ ticket has. let range = is.ticket ticket has in (range.0, let below = range.1 in omega (arith, below, further));
    holds = is.holds;
    waits = is.waits;
  }

  -- what each seat knows, if one seat's view changed
  each_set : (K : V → Type 0) (views : List V) (id : ℕ) (w : V) → K w → ((j : ℕ) (u : V) → j ≢ id → get_elem? views j ≡ some u → K u)
      → (j : ℕ) (u : V) → get_elem? (set views id w) j ≡ some u → K u
  each_set K views id w mine others j u at = ⊎_elim (λ (here : (j ≡ id) × (w ≡ u)). subst K here.1 mine)
      (λ (else : (j ≢ id) × (get_elem? views j ≡ some u)). others j u else.0 else.1) (at_set views id j w u at)

  same_total : (f : V → ℕ) (views : List V) (id : ℕ) (v w : V) → get_elem? views id ≡ some v → f w ≡ f v → total f (set views id w) ≡ total f views
  same_total f views id v w at same = let change = total_set f views id v w at in omega (arith, change, same)

  -- one seat's view changes, and with it all that is given here
  moved : (s : S) (k : Rule s) (id : ℕ) (v w : V) (words' : List ℕ) (homes' : List (maybe.Option (Option T))) (value : T) (news : List Entry) (drawn served durable : ℕ)
      → get_elem? s.views id ≡ some v
      → words' ≡ drawn % 2 ^ 64 ∷ served % 2 ^ 64 ∷ length (told.history value) ∷ durable ∷ total ends_in (set s.views id w) ∷ []
      → (total holds_in (set s.views id w) ≡ 0 → (homes' ≡ some (Some value) ∷ []) × told.rests value)
      → told.history value ≡ begin ++ news
      → ((entry : Entry) → Contains news entry → (number : ℕ) × (number < n) × (is_actor number entry.actor ≡ true))
      → told.room k.value + lefts_in w ≤ told.room value + lefts_in v
      → passes_in w ≡ passes_in v
      → ((number : ℕ) → times_in number w ≡ times_in number v)
      → ((ticket : ℕ) → total (λ (view : V). has_ticket view.ticket ticket) (set s.views id w) ≤ 1)
      → drawn + waits_in v + k.served ≡ served + k.drawn + waits_in w
      → durable ≤ told.lasting value
      → Knows told n begin value news durable (total ends_in (set s.views id w)) drawn served w
      → ((j : ℕ) (u : V) → j ≢ id → get_elem? s.views j ≡ some u → Knows told n begin value news durable (total ends_in (set s.views id w)) drawn served u)
      → Rule record { words = words'; homes = homes'; views = set s.views id w }
  moved s k id v w words' homes' value news drawn served durable at words home history actors room passes times apart queue lasts mine others = record {
    value = value;
    news = news;
    drawn = drawn;
    served = served;
    durable = durable;
    words = words;
    home = home;
    history = history;
    actors = actors;
    lefts = let change = total_set lefts_in s.views id v w at in let was = k.lefts in omega (arith, change, was, room);
    passes = same_total passes_in s.views id v w at passes ∙ k.passes;
    few = k.few;
    once = λ number. same_total (times_in number) s.views id v w at (times number) ∙ k.once number;
    apart = apart;
    queue = let change = total_set waits_in s.views id v w at in let was = k.queue in omega (arith, change, was, queue);
    lasts = lasts;
    each = each_set (Knows told n begin value news durable (total ends_in (set s.views id w)) drawn served) s.views id w mine others;
  }

  -- the view of a seat with one pass
  one_pass : (v : V) → v.shares ≡ share_in v ∷ [] → passes_in v ≡ 1
  one_pass v one = ap length one

  -- a seat whose ticket is as it was stands in the queue as it did
  apart_still : (s : S) (k : Rule s) (id : ℕ) (v w : V) → get_elem? s.views id ≡ some v → w.ticket ≡ v.ticket
      → (ticket : ℕ) → total (λ (view : V). has_ticket view.ticket ticket) (set s.views id w) ≤ 1
  apart_still s k id v w at same ticket = subst (λ (count : ℕ). count ≤ 1)
      (sym (same_total (λ (view : V). has_ticket view.ticket ticket) s.views id v w at (ap (λ (mine : Option ℕ). has_ticket mine ticket) same))) (k.apart ticket)

  -- what the one pass of a seat knows
  share_there : (s : S) (k : Rule s) (id : ℕ) (v : V) → get_elem? s.views id ≡ some v → v.shares ≡ share_in v ∷ []
      → IsShare told n begin k.value k.news k.durable (total ends_in s.views) (share_in v)
  share_there s k id v at one = (k.each id v at).shares (share_in v) (subst (λ (shares : List Share). Contains shares (share_in v)) (sym one) (has_one (share_in v)))

  -- the word of an index
  word_at : (s : S) (k : Rule s) (i : ℕ) → slice_index s.words i
      ≡ slice_index (k.drawn % 2 ^ 64 ∷ k.served % 2 ^ 64 ∷ length (told.history k.value) ∷ k.durable ∷ total ends_in s.views ∷ []) i
  word_at s k i = ap (λ (ws : List ℕ). slice_index ws i) k.words

  -- a ticket that is not drawn yet is nobody's
  undrawn : (low high : ℕ) (mine : Option ℕ) → ((ticket : ℕ) → mine ≡ Some ticket → (low ≤ ticket) × (ticket < high)) → has_ticket mine high ≡ 0
  undrawn low high None range = refl
  undrawn low high (Some ticket) range = ap one_if (ne_eqb ticket high (λ same. let below = (range ticket refl).1 in omega (arith, same, below)))

  fresh : (s : S) (k : Rule s) (id : ℕ) (v w : V) → get_elem? s.views id ≡ some v → v.ticket ≡ None → w.ticket ≡ Some k.drawn
      → (ticket : ℕ) → total (λ (view : V). has_ticket view.ticket ticket) (set s.views id w) ≤ 1
  fresh s k id v w at no_ticket drawn ticket =
      let f : V → ℕ = λ view. has_ticket view.ticket ticket in
      let change = total_set f s.views id v w at in
      let zero : f v ≡ 0 = ap (λ (mine : Option ℕ). has_ticket mine ticket) no_ticket in
      let one : f w ≡ one_if (k.drawn == ticket) = ap (λ (mine : Option ℕ). has_ticket mine ticket) drawn in
      dite (ℕ_discrete k.drawn ticket)
      (λ same.
      let none_yet : total f s.views ≡ 0 = subst (λ (t : ℕ). total (λ (view : V). has_ticket view.ticket t) s.views ≡ 0) same
      (total_none (λ (view : V). has_ticket view.ticket k.drawn) s.views (λ j u there. undrawn k.served k.drawn u.ticket (k.each j u there).ticket)) in
      let at_most : one_if (k.drawn == ticket) ≡ 1 = ap one_if (eq-eqb k.drawn ticket same) in
      omega (arith, change, zero, one, none_yet, at_most))
      (λ other.
      let was = k.apart ticket in
      let nothing : one_if (k.drawn == ticket) ≡ 0 = ap one_if (ne_eqb k.drawn ticket other) in
      omega (arith, change, zero, one, was, nothing))

  pub drawing : (slots id : ℕ) (me : M) → me.0.shares ≡ share_in me.0 ∷ [] → me.0.ticket ≡ None → me.0.holds ≡ None → me.1 ≡ []
      → Allows Rule slots id me 0 (λ x. (x + 1) % 2 ^ 64) (draws (step slots 0 1 0 none) me)
  drawing slots id me one no_ticket no_value empty s k size at below =
      let v = me.0 in
      let w : V = queued (share_in v) k.drawn in
      let shares : w.shares ≡ v.shares = sym one in
      let ends = same_total ends_in s.views id v w at (ap (total (λ (share : Share). one_if share.ended)) shares) in
      let zero_waits : waits_in v ≡ 0 = ap (λ (ticket : Option ℕ). one_if (is_some ticket)) no_ticket in
      let none_held : holds_in v ≡ 0 = ap (λ (held : Option T). one_if (is_some held)) no_value in (
        w,
        keeps,
        tt,
        moved s k id v w _ s.homes k.value k.news (k.drawn + 1) k.served k.durable at
            (ap (λ (ws : List ℕ). slice_set ws 0 ((slice_index ws 0 + 1) % 2 ^ 64)) k.words
            ∙ ap (λ (x : ℕ). x ∷ k.served % 2 ^ 64 ∷ length (told.history k.value) ∷ k.durable ∷ total ends_in s.views ∷ []) (mod-add-mod k.drawn (2 ^ 64) 1)
            ∙ ap (λ (x : ℕ). (k.drawn + 1) % 2 ^ 64 ∷ k.served % 2 ^ 64 ∷ length (told.history k.value) ∷ k.durable ∷ x ∷ []) (sym ends))
            (λ empty_hands. k.home (sym (same_total holds_in s.views id v w at (sym none_held)) ∙ empty_hands))
            k.history
            k.actors
            (let same : lefts_in w ≡ lefts_in v = ap (total (λ (share : Share). share.left)) shares in omega (arith, same))
            (ap length shares)
            (λ number. ap (total (λ (share : Share). one_if (share.number == number))) shares)
            (fresh s k id v w at no_ticket refl)
            (omega (arith, zero_waits))
            k.lasts
            (subst (λ (ended : ℕ). Knows told n begin k.value k.news k.durable ended (k.drawn + 1) k.served w) (sym ends) record {
              shares = λ share there. (k.each id v at).shares share (subst (λ (them : List Share). Contains them share) shares there);
              ticket = λ ticket has. let same : k.drawn ≡ ticket = cc has in let was = k.queue in (omega (arith, same, was), omega (arith, same));
              holds = λ held has. absurd (cc has);
              waits = omega arith;
            })
            (λ j u other there. subst (λ (ended : ℕ). Knows told n begin k.value k.news k.durable ended (k.drawn + 1) k.served u) (sym ends)
            (knows_on k.value k.news k.durable k.durable (total ends_in s.views) (total ends_in s.views) k.drawn (k.drawn + 1) k.served u (omega arith) (omega arith) (omega arith) (k.each j u there))),
        (k.drawn, word_at s k 0, ap (λ (carried : List (ℕ × Option T)). (w, carried)) empty),
      )

  -- a share whose value stays, with another view of the same shares
  apart_one : (s : S) (k : Rule s) (id j : ℕ) (v u : V) (ticket : ℕ) → j ≢ id → get_elem? s.views id ≡ some v → get_elem? s.views j ≡ some u
      → v.ticket ≡ Some ticket → u.ticket ≡ Some ticket → ⊥
  apart_one s k id j v u ticket other at there mine its =
      let f : V → ℕ = λ view. has_ticket view.ticket ticket in
      let both = total_two f s.views j id u v other there at in
      let one : has_ticket v.ticket ticket ≡ 1 = ap (λ (t : Option ℕ). has_ticket t ticket) mine ∙ ap one_if (eq-eqb ticket ticket refl) in
      let two : has_ticket u.ticket ticket ≡ 1 = ap (λ (t : Option ℕ). has_ticket t ticket) its ∙ ap one_if (eq-eqb ticket ticket refl) in
      let most = k.apart ticket in
      omega (arith, both, one, two, most)

  none_waits : (drawn served count : ℕ) → drawn ≡ served + count → count ≤ 10 → drawn ≤ served + 10
  none_waits drawn served count is less = omega (arith, is, less)

  -- fewer wait than there are tickets
  queue_short : (s : S) (k : Rule s) → k.drawn ≤ k.served + 10
  queue_short s k = let less = total_le waits_in passes_in s.views (λ i u there. (k.each i u there).waits) in let all = k.passes in let few = k.few in
      none_waits k.drawn k.served (total waits_in s.views) k.queue (omega (arith, less, all, few))

  -- a ticket that is served, by its last 64 bits
  served_now : (s : S) (k : Rule s) (id : ℕ) (v : V) (ticket : ℕ) → get_elem? s.views id ≡ some v → v.ticket ≡ Some ticket
      → k.served % 2 ^ 64 ≡ ticket % 2 ^ 64 → k.served ≡ ticket
  served_now s k id v ticket at mine same = let range = (k.each id v at).ticket ticket mine in let low = range.0 in let high = range.1 in let short = queue_short s k in
      one_turn k.served ticket (2 ^ 64) low (omega (arith, high, short)) same

  -- where the ticket that is served is that of a seat that does not have the value, none has it
  at_home : (s : S) (k : Rule s) (id : ℕ) (v : V) → get_elem? s.views id ≡ some v → v.ticket ≡ Some k.served → v.holds ≡ None → total holds_in s.views ≡ 0
  at_home s k id v at mine free = total_none holds_in s.views (λ j u there. empty_handed j u there u.holds refl)
    where
      empty_handed : (j : ℕ) (u : V) → get_elem? s.views j ≡ some u → (held : Option T) → u.holds ≡ held → holds_in u ≡ 0
      empty_handed j u there None is = ap (λ (h : Option T). one_if (is_some h)) is
      empty_handed j u there (Some x) is = absurd (dite (ℕ_discrete j id)
          (λ same. let one : u ≡ v = some-injective u v (sym there ∙ ap (get_elem? s.views) same ∙ at) in cc (is, ap (λ (view : V). view.holds) one, free))
          (λ other. apart_one s k id j v u k.served other at there mine ((k.each j u there).holds x is).1))

  pub finding : (s : S) (k : Rule s) (id : ℕ) (v : V) → get_elem? s.views id ≡ some v → v.shares ≡ share_in v ∷ [] → told.rests k.value
      → Finds told (share_in v) k.value
  finding s k id v at one rests = let is = share_there s k id v at one in record {
    rests = rests;
    seen = is.seen;
    news = k.news;
    since = k.history ∙ ap (λ (front : List Entry). front ++ k.news) (sym is.start);
    mine = is.mine;
    saw = is.saw;
    room = let mine = total_one lefts_in s.views id v at in let all = k.lefts in
        let same : lefts_in v ≡ (share_in v).left + 0 = ap (total (λ (share : Share). share.left)) one in omega (arith, mine, all, same);
    begun = λ mover. sym (is.begun mover);
    lasting = is.lasting;
    committed = is.committed;
    durable = let below = is.durable in let lasts = k.lasts in omega (arith, below, lasts);
  }

  -- nothing changes
  still : (s : S) (k : Rule s) (i id : ℕ) (v : V) → get_elem? s.views id ≡ some v
      → Rule record { words = slice_set s.words i (slice_index s.words i); homes = s.homes; views = set s.views id v }
  still s k i id v at = subst (λ (p : List ℕ × List V). Rule record { words = p.0; homes = s.homes; views = p.1 })
      (λ c. (sym (set-get_or s.words i 0) c, sym (set_again s.views id v at) c)) k

  -- who has the value is counted
  held_one : (views : List V) (id : ℕ) (v w : V) (value : T) → get_elem? views id ≡ some v → v.holds ≡ None → w.holds ≡ Some value → total holds_in (set views id w) ≢ 0
  held_one views id v w value at free has nobody = let change = total_set holds_in views id v w at in
      let none_before : holds_in v ≡ 0 = ap (λ (h : Option T). one_if (is_some h)) free in
      let one_now : holds_in w ≡ 1 = ap (λ (h : Option T). one_if (is_some h)) has in
      omega (arith, change, none_before, one_now, nobody)

  pub looking : (slots id : ℕ) (me : M) (ticket : ℕ) → me.0.shares ≡ share_in me.0 ∷ [] → me.0.ticket ≡ Some ticket → me.0.holds ≡ None → me.1 ≡ []
      → Allows Rule slots id me 1 (λ x. x) (looks told (step slots 1 0 0 none) me)
  looking slots id me ticket one mine free empty s k size at below = by_word (slice_index s.words 1 == ticket % 2 ^ 64) refl
    where
      v : V
      v = me.0

      Goal : Type 0
      Goal = (w : V) × (a : Act (Option T)) × Valid s.homes me.1 a
          × Rule (stepped s 1 (slice_index s.words 1) id me.1 w a)
          × looks told (step slots 1 0 0 none) me (slice_index s.words 1) (w, carried_after me.1 a)

      Told : ℕ → Bool → V × List (ℕ × Option T) → Type 0
      Told t b w = MatchBool b ((value : T) × Finds told (share_in v) value
          × (w ≡ (holding (with_taken told (share_in v) value) t value, (0, Some value) ∷ []))) (w ≡ me)

      telling_all : (w : V × List (ℕ × Option T)) (b : Bool) → (slice_index s.words 1 == ticket % 2 ^ 64) ≡ b → Told ticket b w
          → looks told (step slots 1 0 0 none) me (slice_index s.words 1) w
      telling_all w b is told_so ticket' has = let same : ticket ≡ ticket' = cc (mine, has) in
          subst (λ (t : ℕ). Told t (slice_index s.words 1 == t % 2 ^ 64) w) same (subst (λ (x : Bool). Told ticket x w) (sym is) told_so)

      by_word : (b : Bool) → (slice_index s.words 1 == ticket % 2 ^ 64) ≡ b → Goal
      by_word false other = (v, keeps, tt, still s k 1 id v at, telling_all me false other refl)
      by_word true same =
          let found : slice_index s.words 1 ≡ ticket % 2 ^ 64 = eqb→eq (slice_index s.words 1) (ticket % 2 ^ 64) (subst lib.Dec.T (sym same) tt) in
          let served : k.served ≡ ticket = served_now s k id v ticket at mine (sym (word_at s k 1) ∙ found) in
          let home = k.home (at_home s k id v at (mine ∙ ap Some (sym served)) free) in
          let share = share_in v in
          let w : V = holding (with_taken told share k.value) ticket k.value in
          let ends = same_total ends_in s.views id v w at (sym (ap (total (λ (x : Share). one_if x.ended)) one)) in
          let is = share_there s k id v at one in
          let waiting : waits_in v ≡ 1 = ap (λ (t : Option ℕ). one_if (is_some t)) mine in (
            w,
            takes 0 (Some k.value),
            ap (λ (homes : List (maybe.Option (Option T))). get_elem? homes 0) home.0,
            moved s k id v w _ _ k.value k.news k.drawn k.served k.durable at
                (ap (λ (ws : List ℕ). slice_set ws 1 (slice_index ws 1)) k.words
                ∙ ap (λ (x : ℕ). k.drawn % 2 ^ 64 ∷ k.served % 2 ^ 64 ∷ length (told.history k.value) ∷ k.durable ∷ x ∷ []) (sym ends))
                (λ nobody. absurd (held_one s.views id v w k.value at free refl nobody))
                k.history
                k.actors
                (let same_left : lefts_in v ≡ share.left + 0 = ap (total (λ (x : Share). x.left)) one in omega (arith, same_left))
                (sym (one_pass v one))
                (λ number. sym (ap (total (λ (x : Share). one_if (x.number == number))) one))
                (apart_still s k id v w at (sym mine))
                (omega (arith, waiting))
                k.lasts
                (subst (λ (ended : ℕ). Knows told n begin k.value k.news k.durable ended k.drawn k.served w) (sym ends) record {
                  shares = λ x there. subst (IsShare told n begin k.value k.news k.durable (total ends_in s.views)) (sym (only_one (with_taken told share k.value) x there)) record {
                    number = is.number;
                    start = is.start;
                    seen = prefix_refl (told.history k.value);
                    mine = is.mine;
                    saw = (k.news, k.history ∙ ap (λ (front : List Entry). front ++ k.news) (sym is.start), is.mine);
                    begun = is.begun;
                    lasting = omega arith;
                    committed = is.committed;
                    durable = is.durable;
                    ends = is.ends;
                  };
                  ticket = λ t has. (k.each id v at).ticket t (mine ∙ has);
                  holds = λ held has. (cc has, ap Some (sym served));
                  waits = omega arith;
                })
                (λ j u other there. subst (λ (ended : ℕ). Knows told n begin k.value k.news k.durable ended k.drawn k.served u) (sym ends) (k.each j u there)),
            telling_all (w, (0, Some k.value) ∷ me.1) true same (k.value, finding s k id v at one home.1, ap (λ (carried : List (ℕ × Option T)). (w, (0, Some k.value) ∷ carried)) empty),
          )

  abbrev value_or : T → Option T → T
  value_or other None = other
  value_or other (Some value) = value

  abbrev first_value : T → List (ℕ × Option T) → T
  first_value other [] = other
  first_value other (slot ∷ slots) = value_or other slot.1

  -- two seats have no number in common
  numbers_apart : (s : S) (k : Rule s) (id j : ℕ) (v u : V) (x : Share) → j ≢ id → get_elem? s.views id ≡ some v → get_elem? s.views j ≡ some u → v.shares ≡ share_in v ∷ []
      → Contains u.shares x → (share_in v).number ≢ x.number
  numbers_apart s k id j v u x other at there one has same =
      let number : ℕ = (share_in v).number in
      let both = total_two (times_in number) s.views j id u v other there at in
      let exact = k.once number in
      let bound = one_at_most (nat_lt number n) in
      let mine : times_in number v ≡ 1 = ap (total (λ (share : Share). one_if (share.number == number))) one ∙ ap (λ (b : Bool). one_if b + 0) (eq-eqb number number refl) in
      let theirs = total_has (λ (share : Share). one_if (share.number == number)) u.shares x has in
      let counted : one_if (x.number == number) ≡ 1 = ap one_if (eq-eqb x.number number (sym same)) in
      omega (arith, both, exact, bound, mine, theirs, counted)

  -- the value at hand is still at hand
  held_still : (views : List V) (id : ℕ) (v w : V) (old new : T) → get_elem? views id ≡ some v → v.holds ≡ Some old → w.holds ≡ Some new → total holds_in (set views id w) ≢ 0
  held_still views id v w old new at had has nobody = let change = total_set holds_in views id v w at in let mine = total_one holds_in views id v at in
      let one_before : holds_in v ≡ 1 = ap (λ (h : Option T). one_if (is_some h)) had in
      let one_now : holds_in w ≡ 1 = ap (λ (h : Option T). one_if (is_some h)) has in
      omega (arith, change, mine, one_before, one_now, nobody)

  pub publishing : (slots id : ℕ) (me : M) (ticket : ℕ) (taken value : T) (committed : ℕ) → me.0.shares ≡ share_in me.0 ∷ [] → me.0.ticket ≡ Some ticket → me.0.holds ≡ Some taken
      → me.1 ≡ (0, Some value) ∷ [] → MayPut told (share_in me.0) taken value → committed ≡ length (told.history value)
      → Allows Rule slots id me 2 (λ _. committed) (puts told (step slots 2 committed 0 none) me)
  publishing slots id me ticket taken value committed one mine has carried may length_is s k size at below =
      let v = me.0 in
      let share = share_in v in
      let more = added told taken value in
      let w : V = holding (with_put told share taken value) ticket value in
      let ends = same_total ends_in s.views id v w at (sym (ap (total (λ (x : Share). one_if x.ended)) one)) in
      let is = share_there s k id v at one in
      let holder = (k.each id v at).holds taken has in
      let now : taken ≡ k.value = holder.0 in
      let history_now : told.history taken ≡ told.history k.value = ap told.history now in
      let lasting_now : told.lasting taken ≡ told.lasting k.value = ap told.lasting now in
      let lasts = may.lasting in
      let longer : length (told.history value) ≡ length (told.history k.value) + length more =
      ap length may.grown ∙ length-append (told.history taken) more ∙ ap (λ (h : List Entry). length h + length more) history_now in
      let mine_now : entries_of share.number (k.news ++ more) ≡ share.mine ++ more = filter-append (λ (entry : Entry). is_actor share.number entry.actor) k.news more ∙ ap (λ (front : List Entry). front ++ entries_of share.number more) is.mine ∙ ap (λ (back : List Entry). share.mine ++ back) (all_of share.number more may.actor) in
      let history_on : told.history value ≡ begin ++ (k.news ++ more) = may.grown ∙ ap (λ (front : List Entry). front ++ more) (history_now ∙ k.history) ∙ append_assoc begin k.news more in
      let waiting : waits_in v ≡ 1 = ap (λ (t : Option ℕ). one_if (is_some t)) mine in (
        w,
        keeps,
        tt,
        moved s k id v w _ s.homes value (k.news ++ more) k.drawn k.served k.durable at
            (ap (λ (ws : List ℕ). slice_set ws 2 committed) k.words
            ∙ ap (λ (x : ℕ × ℕ). k.drawn % 2 ^ 64 ∷ k.served % 2 ^ 64 ∷ x.0 ∷ k.durable ∷ x.1 ∷ []) (λ c. (length_is c, sym ends c)))
            (λ nobody. absurd (held_still s.views id v w taken value at has refl nobody))
            history_on
            (λ entry there. ⊎_elim (λ old. k.actors entry old) (λ new. (share.number, is.number, may.actor entry new)) (Contains-append_cases k.news more entry there))
            (let same_left : lefts_in v ≡ share.left + 0 = ap (total (λ (x : Share). x.left)) one in
            let room_now : told.room taken ≡ told.room k.value = ap told.room now in let room = may.room in let left = may.left in
            omega (arith, same_left, room_now, room, left))
            (sym (one_pass v one))
            (λ number. sym (ap (total (λ (x : Share). one_if (x.number == number))) one))
            (apart_still s k id v w at (sym mine))
            (omega (arith, waiting))
            (let lower = k.lasts in omega (arith, lower, lasts, lasting_now))
            (subst (λ (ended : ℕ). Knows told n begin value (k.news ++ more) k.durable ended k.drawn k.served w) (sym ends) record {
              shares = λ x there. subst (IsShare told n begin value (k.news ++ more) k.durable (total ends_in s.views)) (sym (only_one (with_put told share taken value) x there)) record {
                number = is.number;
                start = is.start;
                seen = prefix_refl (told.history value);
                mine = mine_now;
                saw = (k.news ++ more, history_on ∙ ap (λ (front : List Entry). front ++ (k.news ++ more)) (sym is.start), mine_now);
                begun = λ mover. refl;
                lasting = omega arith;
                committed = let before = is.committed in omega (arith, before, longer);
                durable = is.durable;
                ends = is.ends;
              };
              ticket = λ t is_mine. (k.each id v at).ticket t (mine ∙ is_mine);
              holds = λ held is_held. (cc is_held, sym mine ∙ holder.1);
              waits = omega arith;
            })
            (λ j u other there. subst (λ (ended : ℕ). Knows told n begin value (k.news ++ more) k.durable ended k.drawn k.served u) (sym ends) record {
              shares = λ x there_too.
                  let was = (k.each j u there).shares x there_too in
                  let apart = numbers_apart s k id j v u x other at there one there_too in record {
                    number = was.number;
                    start = was.start;
                    seen = prefix_trans x.seen (told.history k.value) (told.history value) was.seen (more, ap (λ (h : List Entry). h ++ more) (sym history_now) ∙ sym may.grown);
                    mine = filter-append (λ (entry : Entry). is_actor x.number entry.actor) k.news more ∙ ap (λ (back : List Entry). entries_of x.number k.news ++ back) (none_of share.number x.number more apart may.actor)
                        ∙ append-nil (entries_of x.number k.news) ∙ was.mine;
                    saw = was.saw;
                    begun = λ mover. was.begun mover ∙ ap told.begun (sym now) ∙ sym (may.begun (λ mine_too. apart (mine_too ∙ sym mover)));
                    lasting = let before = was.lasting in omega (arith, before, lasts, lasting_now);
                    committed = let before = was.committed in omega (arith, before, longer);
                    durable = was.durable;
                    ends = was.ends;
                  };
              ticket = (k.each j u there).ticket;
              holds = λ held is_held. absurd (apart_one s k id j v u k.served other at there holder.1 ((k.each j u there).holds held is_held).1);
              waits = (k.each j u there).waits;
            }),
        λ ticket' taken' value' mine' has' carried'.
            let same_ticket : ticket ≡ ticket' = cc (mine, mine') in
            let same_taken : taken ≡ taken' = cc (has, has') in
            let same_value : value ≡ value' = ap (first_value value) (sym carried ∙ carried') in
            (word_at s k 2 ∙ ap (λ (t : T). length (told.history t)) (sym now ∙ same_taken), (λ c. (holding (with_put told share (same_taken c) (same_value c)) (same_ticket c) (same_value c), me.1))),
      )

  single : {X : Type 0} (xs : List X) (x : X) → length xs ≡ 1 → set xs 0 x ≡ x ∷ []
  single [] x is = absurd (omega (arith, is))
  single (y ∷ []) x is = refl
  single (y ∷ z ∷ xs) x is = absurd (omega (arith, is))

  pub passing : (slots id : ℕ) (me : M) (ticket : ℕ) (value : T) → slots ≡ 1 → me.0.shares ≡ share_in me.0 ∷ [] → me.0.ticket ≡ Some ticket → me.0.holds ≡ Some value
      → me.1 ≡ (0, Some value) ∷ [] → told.rests value → Allows Rule slots id me 1 (λ x. (x + 1) % 2 ^ 64) (passes_on (step slots 1 1 0 none) me)
  passing slots id me ticket value alone one mine has carried rests s k size at below =
      let v = me.0 in
      let w : V = resting v.shares in
      let holder = (k.each id v at).holds value has in
      let ends = same_total ends_in s.views id v w at refl in
      let waiting : waits_in v ≡ 1 = ap (λ (t : Option ℕ). one_if (is_some t)) mine in
      let homes_now : homes_after s.homes me.1 gives ≡ some (Some k.value) ∷ [] =
      ap (λ (c : List (ℕ × Option T)). homes_after s.homes c gives) carried ∙ single s.homes (some (Some value)) (size ∙ alone) ∙ ap (λ (x : T). some (Some x) ∷ []) holder.0 in (
        w,
        gives,
        tt,
        moved s k id v w _ _ k.value k.news k.drawn (k.served + 1) k.durable at
            (ap (λ (ws : List ℕ). slice_set ws 1 ((slice_index ws 1 + 1) % 2 ^ 64)) k.words
            ∙ ap (λ (x : ℕ × ℕ). k.drawn % 2 ^ 64 ∷ x.0 ∷ length (told.history k.value) ∷ k.durable ∷ x.1 ∷ []) (λ c. (mod-add-mod k.served (2 ^ 64) 1 c, sym ends c)))
            (λ nobody. (homes_now, subst told.rests holder.0 rests))
            k.history
            k.actors
            (omega arith)
            refl
            (λ number. refl)
            (λ t. let f : V → ℕ = λ view. has_ticket view.ticket t in let change = total_set f s.views id v w at in let most = k.apart t in omega (arith, change, most))
            (omega (arith, waiting))
            k.lasts
            (subst (λ (ended : ℕ). Knows told n begin k.value k.news k.durable ended k.drawn (k.served + 1) w) (sym ends) record {
              shares = (k.each id v at).shares;
              ticket = λ t is_mine. absurd (cc is_mine);
              holds = λ held is_held. absurd (cc is_held);
              waits = omega arith;
            })
            (λ j u other there. subst (λ (ended : ℕ). Knows told n begin k.value k.news k.durable ended k.drawn (k.served + 1) u) (sym ends) record {
              shares = (k.each j u there).shares;
              ticket = λ t its. let range = (k.each j u there).ticket t its in let low = range.0 in
                  let late : t ≢ k.served = λ same. apart_one s k id j v u k.served other at there holder.1 (its ∙ ap Some same) in
                  (omega (arith, low, late), range.1);
              holds = λ held is_held. absurd (apart_one s k id j v u k.served other at there holder.1 ((k.each j u there).holds held is_held).1);
              waits = (k.each j u there).waits;
            }),
        ap (λ (c : List (ℕ × Option T)). (w, rest c)) carried,
      )

  pub noting : (slots id : ℕ) (me : M) (durable : ℕ) → me.0.shares ≡ share_in me.0 ∷ [] → durable ≤ (share_in me.0).lasting
      → Allows Rule slots id me 3 (λ x. max x durable) (notes (step slots 3 durable 0 none) me)
  noting slots id me durable one low s k size at below =
      let v = me.0 in
      let share = share_in v in
      let share' : Share = record share { durable = max share.durable durable } in
      let w : V = with_share v share' in
      let ends = same_total ends_in s.views id v w at (sym (ap (total (λ (x : Share). one_if x.ended)) one)) in
      let is = share_there s k id v at one in
      let alone = one_pass v one in
      let more : ℕ = max k.durable durable in
      let later : k.durable ≤ more = le-max_left k.durable durable in (
        w,
        keeps,
        tt,
        moved s k id v w _ s.homes k.value k.news k.drawn k.served more at
            (ap (λ (ws : List ℕ). slice_set ws 3 (max (slice_index ws 3) durable)) k.words
            ∙ ap (λ (x : ℕ). k.drawn % 2 ^ 64 ∷ k.served % 2 ^ 64 ∷ length (told.history k.value) ∷ more ∷ x ∷ []) (sym ends))
            (λ nobody. k.home (sym (same_total holds_in s.views id v w at refl) ∙ nobody))
            k.history
            k.actors
            (let same_left : lefts_in v ≡ share.left + 0 = ap (total (λ (x : Share). x.left)) one in omega (arith, same_left))
            (sym alone)
            (λ number. sym (ap (total (λ (x : Share). one_if (x.number == number))) one))
            (apart_still s k id v w at refl)
            (omega arith)
            (let lasts = k.lasts in let lasting = is.lasting in omega (arith, lasts, lasting, low))
            (subst (λ (ended : ℕ). Knows told n begin k.value k.news more ended k.drawn k.served w) (sym ends) record {
              shares = λ x there. subst (IsShare told n begin k.value k.news more (total ends_in s.views)) (sym (only_one share' x there)) record {
                number = is.number;
                start = is.start;
                seen = is.seen;
                mine = is.mine;
                saw = is.saw;
                begun = is.begun;
                lasting = is.lasting;
                committed = is.committed;
                durable = let before = is.durable in omega (arith, before);
                ends = is.ends;
              };
              ticket = (k.each id v at).ticket;
              holds = (k.each id v at).holds;
              waits = let was = (k.each id v at).waits in omega (arith, was, alone);
            })
            (λ j u other there. subst (λ (ended : ℕ). Knows told n begin k.value k.news more ended k.drawn k.served u) (sym ends)
            (knows_on k.value k.news k.durable more (total ends_in s.views) (total ends_in s.views) k.drawn k.drawn k.served u later (omega arith) (omega arith) (k.each j u there))),
        refl,
      )

  -- a seat's share tells something else
  retold : (s : S) (k : Rule s) (id : ℕ) (v : V) (words' : List ℕ) (share' : Share) → get_elem? s.views id ≡ some v → v.shares ≡ share_in v ∷ []
      → words' ≡ k.drawn % 2 ^ 64 ∷ k.served % 2 ^ 64 ∷ length (told.history k.value) ∷ k.durable ∷ total ends_in (set s.views id (with_share v share')) ∷ []
      → share'.number ≡ (share_in v).number → share'.left ≡ (share_in v).left
      → total ends_in s.views ≤ total ends_in (set s.views id (with_share v share'))
      → IsShare told n begin k.value k.news k.durable (total ends_in (set s.views id (with_share v share'))) share'
      → Rule record { words = words'; homes = s.homes; views = set s.views id (with_share v share') }
  retold s k id v words' share' at one words number left later is =
      let w : V = with_share v share' in
      moved s k id v w words' s.homes k.value k.news k.drawn k.served k.durable at
      words
      (λ nobody. k.home (sym (same_total holds_in s.views id v w at refl) ∙ nobody))
      k.history
      k.actors
      (let same_left : lefts_in v ≡ (share_in v).left + 0 = ap (total (λ (x : Share). x.left)) one in omega (arith, same_left, left))
      (sym (one_pass v one))
      (λ wanted. ap (λ (x : ℕ). one_if (x == wanted) + 0) number ∙ sym (ap (total (λ (x : Share). one_if (x.number == wanted))) one))
      (apart_still s k id v w at refl)
      (omega arith)
      k.lasts
      record {
        shares = λ x there. subst (IsShare told n begin k.value k.news k.durable (total ends_in (set s.views id w))) (sym (only_one share' x there)) is;
        ticket = (k.each id v at).ticket;
        holds = (k.each id v at).holds;
        waits = let was = (k.each id v at).waits in let alone = one_pass v one in omega (arith, was, alone);
      }
      (λ j u other there. knows_on k.value k.news k.durable k.durable (total ends_in s.views) (total ends_in (set s.views id w)) k.drawn k.drawn k.served u
      (omega arith) later (omega arith) (k.each j u there))

  -- a word is loaded, and the share tells what was found
  loaded : (slots id : ℕ) (me : M) (i : ℕ) (s : S) (k : Rule s) (share' : Share) → get_elem? s.views id ≡ some me.0 → me.0.shares ≡ share_in me.0 ∷ []
      → share'.number ≡ (share_in me.0).number → share'.left ≡ (share_in me.0).left → share'.ended ≡ (share_in me.0).ended
      → IsShare told n begin k.value k.news k.durable (total ends_in s.views) share'
      → Rule record { words = slice_set s.words i (slice_index s.words i); homes = s.homes; views = set s.views id (with_share me.0 share') }
  loaded slots id me i s k share' at one number left ended is =
      let w : V = with_share me.0 share' in
      let ends : total ends_in (set s.views id w) ≡ total ends_in s.views = same_total ends_in s.views id me.0 w at
      (ap (λ (b : Bool). one_if b + 0) ended ∙ sym (ap (total (λ (x : Share). one_if x.ended)) one)) in
      retold s k id me.0 _ share' at one
      (set-get_or s.words i 0 ∙ k.words ∙ ap (λ (x : ℕ). k.drawn % 2 ^ 64 ∷ k.served % 2 ^ 64 ∷ length (told.history k.value) ∷ k.durable ∷ x ∷ []) (sym ends))
      number left (omega (arith, ends))
      (subst (λ (x : ℕ). IsShare told n begin k.value k.news k.durable x share') (sym ends) is)

  pub seeing_committed : (slots id : ℕ) (me : M) → ((value : T) → told.lasting value ≤ length (told.history value)) → me.0.shares ≡ share_in me.0 ∷ []
      → Allows Rule slots id me 2 (λ x. x) (sees_committed (step slots 2 0 0 none) me)
  seeing_committed slots id me bounded one s k size at below =
      let is = share_there s k id me.0 at one in
      let found : slice_index s.words 2 ≡ length (told.history k.value) = word_at s k 2 in
      let share' : Share = record (share_in me.0) { committed = slice_index s.words 2 } in (
        with_share me.0 share',
        keeps,
        tt,
        loaded slots id me 2 s k share' at one refl refl refl record {
          number = is.number;
          start = is.start;
          seen = is.seen;
          mine = is.mine;
          saw = is.saw;
          begun = is.begun;
          lasting = is.lasting;
          committed = omega (arith, found);
          durable = is.durable;
          ends = is.ends;
        },
        (
          let whole = sym (ap length is.seen.1) ∙ length-append (share_in me.0).seen is.seen.0 in omega (arith, whole, found),
          (let before = is.committed in omega (arith, before, found)),
          (let before = is.durable in let lasts = k.lasts in let bound = bounded k.value in omega (arith, before, lasts, bound, found)),
          refl,
        ),
      )

  pub seeing_durable : (slots id : ℕ) (me : M) → me.0.shares ≡ share_in me.0 ∷ []
      → Allows Rule slots id me 3 (λ x. x) (sees_durable (step slots 3 0 0 none) me)
  seeing_durable slots id me one s k size at below =
      let is = share_there s k id me.0 at one in
      let found : slice_index s.words 3 ≡ k.durable = word_at s k 3 in
      let share' : Share = record (share_in me.0) { durable = slice_index s.words 3 } in (
        with_share me.0 share',
        keeps,
        tt,
        loaded slots id me 3 s k share' at one refl refl refl record {
          number = is.number;
          start = is.start;
          seen = is.seen;
          mine = is.mine;
          saw = is.saw;
          begun = is.begun;
          lasting = is.lasting;
          committed = is.committed;
          durable = omega (arith, found);
          ends = is.ends;
        },
        ((let before = is.durable in omega (arith, before, found)), refl),
      )

  pub seeing_ends : (slots id : ℕ) (me : M) → me.0.shares ≡ share_in me.0 ∷ []
      → Allows Rule slots id me 4 (λ x. x) (sees_ends (step slots 4 0 0 none) me)
  seeing_ends slots id me one s k size at below =
      let is = share_there s k id me.0 at one in
      let found : slice_index s.words 4 ≡ total ends_in s.views = word_at s k 4 in
      let share' : Share = record (share_in me.0) { ends = slice_index s.words 4 } in (
        with_share me.0 share',
        keeps,
        tt,
        loaded slots id me 4 s k share' at one refl refl refl record {
          number = is.number;
          start = is.start;
          seen = is.seen;
          mine = is.mine;
          saw = is.saw;
          begun = is.begun;
          lasting = is.lasting;
          committed = is.committed;
          durable = is.durable;
          ends = omega (arith, found);
        },
        ((let before = is.ends in omega (arith, before, found)), refl),
      )

  ends_most : (shares : List Share) → total (λ (x : Share). one_if x.ended) shares ≤ length shares
  ends_most [] = omega arith
  ends_most (share ∷ shares) = let here = one_at_most share.ended in let rest = ends_most shares in omega (arith, here, rest)

  pub ending : (slots id : ℕ) (me : M) → me.0.shares ≡ share_in me.0 ∷ [] → (share_in me.0).ended ≡ false
      → Allows Rule slots id me 4 (λ x. (x + 1) % 2 ^ 64) (ends (step slots 4 1 0 none) me)
  ending slots id me one going s k size at below =
      let v = me.0 in
      let is = share_there s k id v at one in
      let share' : Share = record (share_in v) { ended = true } in
      let w : V = with_share v share' in
      let change = total_set ends_in s.views id v w at in
      let before : ends_in v ≡ 0 = ap (total (λ (x : Share). one_if x.ended)) one ∙ ap (λ (b : Bool). one_if b + 0) going in
      let one_more : total ends_in (set s.views id w) ≡ total ends_in s.views + 1 = omega (arith, change, before) in
      let most = total_le ends_in passes_in s.views (λ j u there. ends_most u.shares) in
      let all = k.passes in
      let few = k.few in (
        w,
        keeps,
        tt,
        retold s k id v _ share' at one
            (ap (λ (ws : List ℕ). slice_set ws 4 ((slice_index ws 4 + 1) % 2 ^ 64)) k.words
            ∙ ap (λ (x : ℕ). k.drawn % 2 ^ 64 ∷ k.served % 2 ^ 64 ∷ length (told.history k.value) ∷ k.durable ∷ x ∷ [])
            (mod-eq_of_lt (omega (arith, most, all, few)) ∙ sym one_more))
            refl refl (omega (arith, one_more)) record {
              number = is.number;
              start = is.start;
              seen = is.seen;
              mine = is.mine;
              saw = is.saw;
              begun = is.begun;
              lasting = is.lasting;
              committed = is.committed;
              durable = is.durable;
              ends = let were = is.ends in omega (arith, were, one_more);
            },
        refl,
      )

  -- all that is counted of the views, and what each seat knows, is as it was
  recounted : (s : S) (k : Rule s) (views : List V) → ((f : V → ℕ) → ((xs ys : List Share) → f (resting (xs ++ ys)) ≡ f (resting xs) + f (resting ys)) → f (resting []) ≡ 0 → total f views ≡ total f s.views)
      → ((j : ℕ) (u : V) → get_elem? views j ≡ some u → Knows told n begin k.value k.news k.durable (total ends_in s.views) k.drawn k.served u)
      → Rule record { words = s.words; homes = s.homes; views = views }
  recounted s k views same knows =
      let ends : total ends_in views ≡ total ends_in s.views = same ends_in (λ xs ys. total_both (λ (x : Share). one_if x.ended) xs ys) refl in record {
        value = k.value;
        news = k.news;
        drawn = k.drawn;
        served = k.served;
        durable = k.durable;
        words = k.words ∙ ap (λ (x : ℕ). k.drawn % 2 ^ 64 ∷ k.served % 2 ^ 64 ∷ length (told.history k.value) ∷ k.durable ∷ x ∷ []) (sym ends);
        home = λ nobody. k.home (sym (same holds_in (λ xs ys. refl) refl) ∙ nobody);
        history = k.history;
        actors = k.actors;
        lefts = subst (λ (count : ℕ). count ≤ told.room k.value) (sym (same lefts_in (λ xs ys. total_both (λ (x : Share). x.left) xs ys) refl)) k.lefts;
        passes = same passes_in (λ xs ys. length-append xs ys) refl ∙ k.passes;
        few = k.few;
        once = λ number. same (times_in number) (λ xs ys. total_both (λ (x : Share). one_if (x.number == number)) xs ys) refl ∙ k.once number;
        apart = λ t. subst (λ (count : ℕ). count ≤ 1) (sym (same (λ view. has_ticket view.ticket t) (λ xs ys. refl) refl)) (k.apart t);
        queue = k.queue ∙ ap (λ (count : ℕ). k.served + count) (sym (same waits_in (λ xs ys. refl) refl));
        lasts = k.lasts;
        each = λ j u there. subst (λ (ended : ℕ). Knows told n begin k.value k.news k.durable ended k.drawn k.served u) (sym ends) (knows j u there);
      }

  -- a seat that has no ticket knows of some passes what it knows of all
  knows_part : (s : S) (k : Rule s) (id : ℕ) (whole part : List Share) → get_elem? s.views id ≡ some (resting whole) → ((x : Share) → Contains part x → Contains whole x)
      → Knows told n begin k.value k.news k.durable (total ends_in s.views) k.drawn k.served (resting part)
  knows_part s k id whole part at within = record {
    shares = λ x there. (k.each id (resting whole) at).shares x (within x there);
    ticket = λ t its. absurd (cc its);
    holds = λ held its. absurd (cc its);
    waits = omega arith;
  }

  split_off : (id : ℕ) (share : Share) (shares : List Share) → Splits Rule id (resting (share ∷ shares)) (resting shares) (resting (share ∷ []))
  split_off id share shares s k at =
      recounted s k (set s.views id (resting shares) ++ resting (share ∷ []) ∷ [])
      (λ f both nothing. let change = total_set f s.views id (resting (share ∷ shares)) (resting shares) at in
      let more = total_last f (set s.views id (resting shares)) (resting (share ∷ [])) in
      let parts = both (share ∷ []) shares in omega (arith, change, more, parts))
      (λ j u there. ⊎_elim
      (each_set (Knows told n begin k.value k.news k.durable (total ends_in s.views) k.drawn k.served) s.views id (resting shares)
      (knows_part s k id (share ∷ shares) shares at (λ x has. in_rest share shares x has)) (λ i x other has. k.each i x has) j u)
      (λ (last : resting (share ∷ []) ≡ u). subst (Knows told n begin k.value k.news k.durable (total ends_in s.views) k.drawn k.served) last
      (knows_part s k id (share ∷ shares) (share ∷ []) at (λ x has. subst (Contains (share ∷ shares)) (sym (only_one share x has)) (in_first share shares))))
      (at_snoc (set s.views id (resting shares)) (resting (share ∷ [])) u j there))

  pub splitting : (id : ℕ) (v : V) (share : Share) (shares : List Share) → v ≡ resting (share ∷ shares)
      → Splits Rule id v (resting (rest_of v.shares)) (resting (first_of v.shares ∷ []))
  splitting id v share shares is = subst (λ (view : V). Splits Rule id view (resting (rest_of view.shares)) (resting (first_of view.shares ∷ []))) (sym is) (split_off id share shares)

  join_up : (id other : ℕ) (mine theirs : List Share) → Joins Rule id (resting mine) other (resting theirs) (resting (mine ++ theirs)) (resting [])
  join_up id other mine theirs s k at apart there =
      let K = Knows told n begin k.value k.news k.durable (total ends_in s.views) k.drawn k.served in
      let both_views = set s.views id (resting (mine ++ theirs)) in
      let theirs_at : get_elem? s.views other ≡ some (resting theirs) = sym (set_else s.views id other (resting (mine ++ theirs)) apart) ∙ there in
      recounted s k (set both_views other (resting []))
      (λ f both nothing. let change = total_set f s.views id (resting mine) (resting (mine ++ theirs)) at in
      let more = total_set f both_views other (resting theirs) (resting []) there in
      let parts = both mine theirs in omega (arith, change, more, parts, nothing))
      (each_set K both_views other (resting []) (knows_part s k other theirs [] theirs_at (λ x has. absurd (nothing_in x has)))
      (λ j u else has. each_set K s.views id (resting (mine ++ theirs)) record {
        shares = λ x in_both. ⊎_elim ((k.each id (resting mine) at).shares x) ((k.each other (resting theirs) theirs_at).shares x) (Contains-append_cases mine theirs x in_both);
        ticket = λ t its. absurd (cc its);
        holds = λ held its. absurd (cc its);
        waits = omega arith;
      } (λ i x apart_too has_too. k.each i x has_too) j u has))
    where
      nothing_in : (x : Share) → Contains [] x → ⊥
      nothing_in x (i, low, is) = omega (arith, low)

  pub joining : (id other : ℕ) (v w : V) → v ≡ resting v.shares → w ≡ resting w.shares → Joins Rule id v other w (resting (v.shares ++ w.shares)) (resting [])
  joining id other v w mine theirs = subst (λ (p : V × V). Joins Rule id p.0 other p.1 (resting (v.shares ++ w.shares)) (resting [])) (λ c. (sym mine c, sym theirs c)) (join_up id other v.shares w.shares)
