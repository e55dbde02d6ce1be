-- Bursts that meet: what a burst is, and two of one capture, mask and gap. 02: CR 13.
use mathlib.Core.Path.{◌≡◌, refl, sym, ap, ap₂, ◌∙◌, subst}
use mathlib.Core.Bool.{Bool, true, false, not, cond, ◌||◌}
use mathlib.Core.Logic.{◌⊎◌, inl, inr}
use Rattle.std.specs.Prelude.{Option, None, Some}
use Prim.Native.Nat.{ℕ, ◌+◌, ◌-◌, ◌≤◌, ◌<◌, min}
use native.Mathlib.Decide.{dec_lt, ℕ_discrete}
use native.Mathlib.Omega.{arith}
use lib.Dec.{ltb, leb, eqb}
use borrow.Author.Tests.{ltb-true, ltb-false, lt-ltb, le-ltb, leb-true, le-leb, ne_eqb}
use Rattle.rules.specs.Search.{changed, next, previous}
use Rattle.rules.specs.Burst.{Burst, Side, most_place, sum, side_if, left_with, right_with, nearer, left_of, right_of, sides, pair_of, last_end, first_end, ends, grown, burst_by, burst}
use Rattle.rules.specs.Bursts.{IsChange, IsBurst, NoneBehind, NoneBefore, Apart, Below, SameEnds, NoSmaller, BurstsMeet}
use Rattle.rules.specs.Unknown.{search_at, Asked, Sooner}
use Rattle.rules.proofs.Neighbours.{Neighbour, neighbour, there}
use Rattle.rules.proofs.Jumps.{Near, Reach, Ended, back_again, onto_of, none_some, ended, no_less, next_near}

-- ---- a capture
module _ (s : ℕ → ℕ) (len mask gap : ℕ) (some-gap : 1 ≤ gap) (few : len ≤ most_place) where
  abbrev Ch : ℕ → Type 0
  Ch = IsChange s len mask

  abbrev back : ℕ → Option ℕ
  back = previous s len mask

  abbrev fore : ℕ → Option ℕ
  fore = next s len mask

  -- a jump's search comes back from what is furthest away
  reach_of : (down : Bool) (p from : ℕ) → Ch p → Asked (not down) len from p
      → ((e : ℕ) → Asked (not down) len from e → Near down gap p e) → ((i : ℕ) → Ch i → Near down gap p i → Asked (not down) len from i)
      → Reach Ch down gap p (search_at (not down) (changed s mask) len from)
  reach_of down p from c itself near asked =
      let f = there s len mask (not down) from p c itself in
      let n = neighbour s len mask (not down) from f.0 f.1 in
      record {
        place = f.0;
        is = f.1;
        change = n.is;
        onto = onto_of down p f.0 (λ h. f.2 (turned down f.0 p h));
        near = near f.0 n.asked;
        furthest = λ i ci x y. n.first i ci (asked i ci y) (turned down f.0 i x);
      }
    where
      turned : (d : Bool) (i j : ℕ) → Sooner d i j → Sooner (not d) j i
      turned true i j h = h
      turned false i j h = h

  upward : (p : ℕ) → Ch p → Reach Ch false gap p (back (sum p (gap - 1)))
  upward p c = reach_of false p (sum p (gap - 1)) c (c.least, omega (arith, c.most, few), c.most) (λ e a. omega (arith, a.1, some-gap)) (λ i ci h. (ci.least, omega (arith, h, ci.most, few), ci.most))

  downward : (p : ℕ) → Ch p → Reach Ch true gap p (fore (p - gap))
  downward p c = reach_of true p (p - gap) c (omega (arith, c.least, some-gap), c.most) (λ e a. omega (arith, a.0)) (λ i ci h. (omega (arith, h, ci.least), ci.most))

  -- ---- the pair that a burst grows from: neighbouring changes less than the gap apart, no further from the place asked than the tolerance
  record IsPair (sample tolerance : ℕ) (x : Side) : Type 0 where
    first_is : Ch x.first
    last_is : Ch x.last
    order_is : x.first < x.last
    gap_is : x.last - x.first < gap
    nothing : (i : ℕ) → Ch i → x.first < i → i < x.last → ⊥
    to_first : x.first ≤ sample + tolerance
    from_last : sample ≤ x.last + tolerance

  abbrev Pairs : ℕ → ℕ → Option Side → Type 0
  Pairs sample tolerance None = Unit {0}
  Pairs sample tolerance (Some x) = IsPair sample tolerance x

  module _ (sample tolerance : ℕ) where
    -- two neighbours, if they are near
    close_pair : (x : Side) → Ch x.first → Ch x.last → x.first < x.last → ((i : ℕ) → Ch i → x.first < i → i < x.last → ⊥) → x.first ≤ sample + tolerance → sample ≤ x.last + tolerance
        → Pairs sample tolerance (side_if (ltb (x.last - x.first) gap) x)
    close_pair x f l o n a z = go (ltb (x.last - x.first) gap) refl
      where
        go : (b : Bool) → ltb (x.last - x.first) gap ≡ b → Pairs sample tolerance (side_if b x)
        go true e = record { first_is = f; last_is = l; order_is = o; gap_is = ltb-true (x.last - x.first) gap e; nothing = n; to_first = a; from_last = z }
        go false e = tt

    within : (b : Bool) (o : Option Side) → (b ≡ true → Pairs sample tolerance o) → Pairs sample tolerance (cond b o None)
    within true o h = h refl
    within false o h = tt

    left_pair : (p : ℕ) → Neighbour s len mask true sample p → (o : Option ℕ) → back (p - 1) ≡ o → Pairs sample tolerance (left_with gap tolerance sample p o)
    left_pair p l None e = tt
    left_pair p l (Some q) e =
        let h = neighbour s len mask true (p - 1) q e in
        within (leb (sample - p) tolerance) (side_if (ltb (p - q) gap) (record { distance = sample - p; first = q; last = p })) (λ t.
        close_pair (record { distance = sample - p; first = q; last = p }) h.is l.is (omega (arith, h.asked.1, l.is.least)) (λ i c a b. h.first i c (c.least, omega (arith, b), c.most) a)
        (omega (arith, h.asked.1, l.asked.1)) (omega (arith, leb-true (sample - p) tolerance t)))

    right_pair : (n : ℕ) → Neighbour s len mask false sample n → (o : Option ℕ) → fore n ≡ o → Pairs sample tolerance (right_with gap tolerance sample n o)
    right_pair n l None e = tt
    right_pair n l (Some r) e =
        let h = neighbour s len mask false n r e in
        within (leb (n - sample) tolerance) (side_if (ltb (r - n) gap) (record { distance = n - sample; first = n; last = r })) (λ t.
        close_pair (record { distance = n - sample; first = n; last = r }) l.is h.is h.asked.0 (λ i c a b. h.first i c (a, c.most) b)
        (omega (arith, leb-true (n - sample) tolerance t)) (omega (arith, l.asked.0, h.asked.0)))

    nearer_pair : (l r : Option Side) → Pairs sample tolerance l → Pairs sample tolerance r → Pairs sample tolerance (nearer l r)
    nearer_pair None r x y = y
    nearer_pair (Some l) None x y = x
    nearer_pair (Some l) (Some r) x y = go (leb l.distance r.distance)
      where
        go : (b : Bool) → Pairs sample tolerance (cond b (Some l) (Some r))
        go true = x
        go false = y

    sides_pair : (p n : Option ℕ) → back sample ≡ p → fore sample ≡ n → Pairs sample tolerance (sides back fore gap tolerance sample p n)
    sides_pair p n e f = nearer_pair (left_of back fore gap tolerance sample p) (right_of back fore gap tolerance sample n) (left p e) (right n f)
      where
        left : (o : Option ℕ) → back sample ≡ o → Pairs sample tolerance (left_of back fore gap tolerance sample o)
        left None z = tt
        left (Some q) z = left_pair q (neighbour s len mask true sample q z) (back (q - 1)) refl

        right : (o : Option ℕ) → fore sample ≡ o → Pairs sample tolerance (right_of back fore gap tolerance sample o)
        right None z = tt
        right (Some q) z = right_pair q (neighbour s len mask false sample q z) (fore q) refl

    pair : (p n : Option ℕ) → back sample ≡ p → fore sample ≡ n → Pairs sample tolerance (pair_of back fore gap tolerance sample p n)
    pair None n e f = sides_pair None n e f
    pair (Some p) None e f = sides_pair (Some p) None e f
    pair (Some p) (Some n) e f = go (ltb (n - p) gap) refl
      where
        l : Neighbour s len mask true sample p
        l = neighbour s len mask true sample p e

        r : Neighbour s len mask false sample n
        r = neighbour s len mask false sample n f

        between : (i : ℕ) → Ch i → p < i → i < n → Dec (sample < i) → ⊥
        between i c a b (yes h) = r.first i c (h, c.most) b
        between i c a b (no h) = l.first i c (c.least, omega (arith, h), c.most) a

        go : (b : Bool) → ltb (n - p) gap ≡ b → Pairs sample tolerance (cond b (Some (record { distance = 0; first = p; last = n })) (sides back fore gap tolerance sample (Some p) (Some n)))
        go true z = record {
          first_is = l.is;
          last_is = r.is;
          order_is = omega (arith, l.asked.1, r.asked.0);
          gap_is = ltb-true (n - p) gap z;
          nothing = λ i c a b. between i c a b (dec_lt sample i);
          to_first = omega (arith, l.asked.1);
          from_last = omega (arith, r.asked.0);
        }
        go false z = sides_pair (Some p) (Some n) e f

    -- ---- at a change that has another less than the gap away there is one, and it has the change
    abbrev Has : Option Side → Type 0
    Has o = (x : Side) × (o ≡ Some x) × (x.first ≤ sample) × (sample ≤ x.last)

    module _ (c : Ch sample) where
      here : back sample ≡ Some sample
      here = let l = there s len mask true sample sample c (c.least, omega arith, c.most) in l.1 ∙ ap (λ (x : ℕ). Some x) (omega (arith, l.2, (neighbour s len mask true sample l.0 l.1).asked.1))

      -- with the next one
      onward : (n : ℕ) → fore sample ≡ Some n → n - sample < gap → Has (pair_of back fore gap tolerance sample (Some sample) (Some n))
      onward n e h = (record { distance = 0; first = sample; last = n }, ap (λ (b : Bool). cond b (Some (record { distance = 0; first = sample; last = n })) (sides back fore gap tolerance sample (Some sample) (Some n))) (lt-ltb (n - sample) gap h), omega arith, omega (arith, (neighbour s len mask false sample n e).asked.0))

      nearest_left : (l : Side) (r : Option Side) → l.distance ≡ 0 → nearer (Some l) r ≡ Some l
      nearest_left l None e = refl
      nearest_left l (Some r) e = ap (λ (b : Bool). cond b (Some l) (Some r)) (le-leb l.distance r.distance (omega (arith, e)))

      -- or with the one before, if that is near: none is nearer
      module _ (i : ℕ) (ci : Ch i) (h : i < sample) (near : sample - i < gap) where
        backward : (n : Option ℕ) → Has (sides back fore gap tolerance sample (Some sample) n)
        backward n =
            let l = there s len mask true (sample - 1) i ci (ci.least, omega (arith, h), ci.most) in
            let x : Side = record { distance = sample - sample; first = l.0; last = sample } in
            let q = neighbour s len mask true (sample - 1) l.0 l.1 in
            (x, ap (λ (o : Option Side). nearer o (right_of back fore gap tolerance sample n)) (left l.0 l.1 (omega (arith, l.2, near))) ∙ nearest_left x (right_of back fore gap tolerance sample n) (omega arith), omega (arith, q.asked.1, ci.least, h), omega arith)
          where
            left : (q : ℕ) → back (sample - 1) ≡ Some q → sample - q < gap → left_of back fore gap tolerance sample (Some sample) ≡ Some (record { distance = sample - sample; first = q; last = sample })
            left q e k =
                ap (left_with gap tolerance sample sample) e
                ∙ ap (λ (b : Bool). cond b (side_if (ltb (sample - q) gap) (record { distance = sample - sample; first = q; last = sample })) None) (le-leb (sample - sample) tolerance (omega arith))
                ∙ ap (λ (b : Bool). side_if b (record { distance = sample - sample; first = q; last = sample })) (lt-ltb (sample - q) gap k)

        around_left : (n : Option ℕ) → fore sample ≡ n → Has (pair_of back fore gap tolerance sample (Some sample) n)
        around_left None e = backward None
        around_left (Some n) e = go (dec_lt (n - sample) gap)
          where
            go : Dec (n - sample < gap) → Has (pair_of back fore gap tolerance sample (Some sample) (Some n))
            go (yes k) = onward n e k
            go (no k) = subst Has (ap (λ (b : Bool). cond b (Some (record { distance = 0; first = sample; last = n })) (sides back fore gap tolerance sample (Some sample) (Some n))) (sym (le-ltb (n - sample) gap (omega (arith, k))))) (backward (Some n))

      pair_there : (i : ℕ) → Ch i → (i ≡ sample → ⊥) → (i - sample) + (sample - i) < gap → Has (pair_of back fore gap tolerance sample (back sample) (fore sample))
      pair_there i ci other near = subst (λ (p : Option ℕ). Has (pair_of back fore gap tolerance sample p (fore sample))) (sym here) (go (dec_lt sample i))
        where
          go : Dec (sample < i) → Has (pair_of back fore gap tolerance sample (Some sample) (fore sample))
          go (yes h) =
              let n = there s len mask false sample i ci (h, ci.most) in
              subst (λ (o : Option ℕ). Has (pair_of back fore gap tolerance sample (Some sample) o)) (sym n.1) (onward n.0 n.1 (omega (arith, n.2, near)))
          go (no h) = around_left i ci (omega (arith, h, other)) (omega (arith, near)) (fore sample) refl

  -- ---- a burst: statements 1 and 2
  record Grown (sample tolerance budget : ℕ) (b : Burst) : Type 0 where
    is_burst : IsBurst s len mask gap b
    behind : b.jumps_end < budget → NoneBehind s len mask gap b.last
    before : b.jumps_start < budget → NoneBefore s len mask gap b.first
    fewer : (b.jumps_end < len) × (b.jumps_start < len)
    around : (b.first ≤ sample + tolerance) × (sample ≤ b.last + tolerance)

  further_up : (q e : ℕ) → ltb q e ≡ false → q < e → ⊥
  further_up q e h k = omega (arith, ltb-false q e h, k)

  up : (budget p : ℕ) → Ch p → Ended Ch false gap p 0 budget (last_end back fore gap budget p)
  up budget p c = ended Ch false gap (λ q. back (sum q (gap - 1))) ltb (λ q e h. ltb-true q e h) further_up upward budget p 0 c

  below : (budget p : ℕ) → Ch p → Ended Ch true gap p 0 budget (first_end back fore gap budget p)
  below budget p c = ended Ch true gap (λ q. fore (q - gap)) (λ q e. ltb e q) (λ q e h. ltb-true e q h) (λ q e h k. further_up e q h k) downward budget p 0 c

  module _ (sample tolerance budget : ℕ) (x : Side) (h : IsPair sample tolerance x) where
    abbrev top : ℕ
    top = (last_end back fore gap budget x.last).place

    abbrev bottom : ℕ
    bottom = (first_end back fore gap budget x.first).place

    l : Ended Ch false gap x.last 0 budget (last_end back fore gap budget x.last)
    l = up budget x.last h.last_is

    f : Ended Ch true gap x.first 0 budget (first_end back fore gap budget x.first)
    f = below budget x.first h.first_is

    high : x.last ≤ top
    high = let no : top < x.last → ⊥ = back_again false x.last top l.onto in omega (arith, no)

    low : bottom ≤ x.first
    low = let no : x.first < bottom → ⊥ = back_again true x.first bottom f.onto in omega (arith, no)

    module _ (i j : ℕ) (ci : Ch i) (cj : Ch j) (a : bottom ≤ i) (b : i < j) (c : j ≤ top) (between : (k : ℕ) → i < k → k < j → Ch k → ⊥) where
      upper : x.last ≤ i → j - i < gap
      upper k =
          let near : i < j → j < i + gap = λ m. next_near Ch false gap x.last 0 budget (last_end back fore gap budget x.last) l i j ci (onto_of false x.last i (λ z. omega (arith, k, z))) m (onto_of false j top (λ z. omega (arith, c, z))) (λ q y z cq. between q y z cq) in
          omega (arith, b, near b)

      lower : j ≤ x.first → j - i < gap
      lower k =
          let near : i < j → j < i + gap = λ m. next_near Ch true gap x.first 0 budget (first_end back fore gap budget x.first) f j i cj (onto_of true x.first j (λ z. omega (arith, k, z))) m (onto_of true i bottom (λ z. omega (arith, a, z))) (λ q y z cq. between q z y cq) in
          omega (arith, b, near b)

      -- neither behind the pair nor before it: they are the pair
      middle : i < x.last → x.first < j → j - i < gap
      middle k m = pair_ends (dec_lt x.first i) (dec_lt i x.first) (dec_lt x.last j)
        where
          pair_ends : Dec (x.first < i) → Dec (i < x.first) → Dec (x.last < j) → j - i < gap
          pair_ends (yes z) y w = absurd (h.nothing i ci z k)
          pair_ends (no z) (yes y) w = absurd (between x.first y m h.first_is)
          pair_ends (no z) (no y) (yes w) = absurd (between x.last k w h.last_is)
          pair_ends (no z) (no y) (no w) = omega (arith, z, y, w, h.gap_is)

      neighbours : j - i < gap
      neighbours = go (dec_lt i x.last) (dec_lt x.first j)
        where
          go : Dec (i < x.last) → Dec (x.first < j) → j - i < gap
          go (no k) m = upper (omega (arith, k))
          go (yes k) (no m) = lower (omega (arith, m))
          go (yes k) (yes m) = middle k m

    far : (p q : ℕ) → (p < q + gap → ⊥) → gap ≤ p - q
    far p q k = omega (arith, k)

    grown_is : Grown sample tolerance budget (ends back fore (last_end back fore gap budget x.last) (first_end back fore gap budget x.first))
    grown_is = record {
      is_burst = record { first_is = f.change; last_is = l.change; order = omega (arith, low, high, h.order_is); gaps = neighbours };
      behind = λ k i c a. far i top (l.stops (omega (arith, k)) i c a);
      before = λ k i c a. far bottom i (f.stops (omega (arith, k)) i c a);
      fewer = (omega (arith, l.jumps_are, l.paces, l.change.most), omega (arith, f.jumps_are, f.paces, h.first_is.most));
      around = (omega (arith, low, h.to_first), omega (arith, high, h.from_last));
    }

  abbrev All : ℕ → ℕ → ℕ → Option Burst → Type 0
  All sample tolerance budget None = Unit {0}
  All sample tolerance budget (Some b) = Grown sample tolerance budget b

  grown_all : (sample tolerance budget : ℕ) (o : Option Side) → Pairs sample tolerance o → All sample tolerance budget (grown back fore gap budget o)
  grown_all sample tolerance budget None h = tt
  grown_all sample tolerance budget (Some x) h = grown_is sample tolerance budget x h

  abbrev pair_at : ℕ → ℕ → Option Side
  pair_at sample tolerance = pair_of back fore gap (min tolerance (gap - 1)) sample (back sample) (fore sample)

  burst_all : (sample tolerance budget : ℕ) → All sample (min tolerance (gap - 1)) budget (burst s len mask sample gap tolerance budget)
  unfolding burst_by
  burst_all sample tolerance budget = go (eqb len 0 || ltb gap 2)
    where
      go : (b : Bool) → All sample (min tolerance (gap - 1)) budget (cond b None (grown back fore gap budget (pair_at sample tolerance)))
      go true = tt
      go false = grown_all sample (min tolerance (gap - 1)) budget (pair_at sample tolerance) (pair sample (min tolerance (gap - 1)) (back sample) (fore sample) refl refl)

  -- ---- statement 4: a larger budget, all else equal
  larger : (budget more : ℕ) → budget ≤ more → (sample tolerance : ℕ) (o : Option Side) → Pairs sample tolerance o → NoSmaller (grown back fore gap budget o) (grown back fore gap more o)
  larger budget more h sample tolerance None p = tt
  larger budget more h sample tolerance (Some x) p =
      let a = no_less Ch true gap (λ q. fore (q - gap)) (λ q e. ltb e q) (λ q e z. ltb-true e q z) (λ q e z k. further_up e q z k) downward budget more x.first 0 h p.first_is in
      let b = no_less Ch false gap (λ q. back (sum q (gap - 1))) ltb (λ q e z. ltb-true q e z) further_up upward budget more x.last 0 h p.last_is in
      let no : (first_end back fore gap budget x.first).place < (first_end back fore gap more x.first).place → ⊥ = back_again true (first_end back fore gap budget x.first).place (first_end back fore gap more x.first).place a in
      let nor : (last_end back fore gap more x.last).place < (last_end back fore gap budget x.last).place → ⊥ = back_again false (last_end back fore gap budget x.last).place (last_end back fore gap more x.last).place b in
      (omega (arith, no), omega (arith, nor))

  larger_burst : (sample tolerance budget more : ℕ) → budget ≤ more → NoSmaller (burst s len mask sample gap tolerance budget) (burst s len mask sample gap tolerance more)
  unfolding burst_by
  larger_burst sample tolerance budget more h = go (eqb len 0 || ltb gap 2)
    where
      go : (b : Bool) → NoSmaller (cond b None (grown back fore gap budget (pair_at sample tolerance))) (cond b None (grown back fore gap more (pair_at sample tolerance)))
      go true = tt
      go false = larger budget more h sample (min tolerance (gap - 1)) (pair_at sample tolerance) (pair sample (min tolerance (gap - 1)) (back sample) (fore sample) refl refl)

  -- ---- statement 3: two bursts
  -- a burst with nothing near behind it ends no sooner than one that has a change of it
  no_later : (b c : Burst) → IsBurst s len mask gap b → IsBurst s len mask gap c → NoneBehind s len mask gap b.last → (i : ℕ) → i ≤ b.last → c.first ≤ i → b.last < c.last → ⊥
  no_later b c x y alone i h k l =
      let n = there s len mask false b.last c.last y.last_is (l, y.last_is.most) in
      let r = neighbour s len mask false b.last n.0 n.1 in
      omega (arith, alone n.0 r.is r.asked.0, y.gaps b.last n.0 x.last_is r.is (omega (arith, h, k)) r.asked.0 (omega (arith, n.2)) (λ q a z cq. r.first q cq (a, cq.most) z))

  no_sooner : (b c : Burst) → IsBurst s len mask gap b → IsBurst s len mask gap c → NoneBefore s len mask gap b.first → (i : ℕ) → b.first ≤ i → i ≤ c.last → c.first < b.first → ⊥
  no_sooner b c x y alone i h k l =
      let p = there s len mask true (b.first - 1) c.first y.first_is (y.first_is.least, omega (arith, l), y.first_is.most) in
      let r = neighbour s len mask true (b.first - 1) p.0 p.1 in
      let below-first : p.0 < b.first = omega (arith, r.asked.1, x.first_is.least) in
      omega (arith, alone p.0 r.is below-first, y.gaps p.0 b.first r.is x.first_is (omega (arith, p.2)) below-first (omega (arith, h, k)) (λ q a z cq. r.first q cq (cq.least, omega (arith, z), cq.most) a))

  -- with a change in both they have the same ends
  module _ (sample₁ tolerance₁ budget₁ sample₂ tolerance₂ budget₂ : ℕ) (b c : Burst) (x : Grown sample₁ tolerance₁ budget₁ b) (m : Below budget₁ b) (y : Grown sample₂ tolerance₂ budget₂ c) (n : Below budget₂ c) where
    module _ (i : ℕ) (ib : b.first ≤ i) (bi : i ≤ b.last) (ic : c.first ≤ i) (ci : i ≤ c.last) where
      lasts : b.last ≡ c.last
      lasts =
          let no : b.last < c.last → ⊥ = no_later b c x.is_burst y.is_burst (x.behind m.end) i bi ic in
          let nor : c.last < b.last → ⊥ = no_later c b y.is_burst x.is_burst (y.behind n.end) i ci ib in
          omega (arith, no, nor)

      firsts : b.first ≡ c.first
      firsts =
          let no : c.first < b.first → ⊥ = no_sooner b c x.is_burst y.is_burst (x.before m.start) i ib ci in
          let nor : b.first < c.first → ⊥ = no_sooner c b y.is_burst x.is_burst (y.before n.start) i ic bi in
          omega (arith, no, nor)

    meet : SameEnds b c ⊎ Apart s len mask b c
    meet = go (ℕ_discrete b.first c.first) (ℕ_discrete b.last c.last)
      where
        go : Dec (b.first ≡ c.first) → Dec (b.last ≡ c.last) → SameEnds b c ⊎ Apart s len mask b c
        go (yes e) (yes f) = inl (e, f)
        go (yes e) (no f) = inr (λ i ch ib bi ic ci. f (lasts i ib bi ic ci))
        go (no e) f = inr (λ i ch ib bi ic ci. e (firsts i ib bi ic ci))

  -- ---- at a change that has another less than the gap away
  there_burst : (sample tolerance budget : ℕ) → Ch sample → (i : ℕ) → Ch i → (i ≡ sample → ⊥) → (i - sample) + (sample - i) < gap
      → (b : Burst) × (burst s len mask sample gap tolerance budget ≡ Some b) × (b.first ≤ sample) × (sample ≤ b.last)
  unfolding burst_by
  there_burst sample tolerance budget c i ci other near =
      let f = pair_there sample (min tolerance (gap - 1)) c i ci other near in
      let x = f.0 in
      let h : IsPair sample (min tolerance (gap - 1)) x = subst (Pairs sample (min tolerance (gap - 1))) f.1 (pair sample (min tolerance (gap - 1)) (back sample) (fore sample) refl refl) in (
        ends back fore (last_end back fore gap budget x.last) (first_end back fore gap budget x.first),
        ap₂ (λ (p q : Bool). cond (p || q) None (grown back fore gap budget (pair_at sample tolerance))) (ne_eqb len 0 (λ e. omega (arith, e, c.most))) (le-ltb gap 2 (omega (arith, other, near)))
            ∙ ap (grown back fore gap budget) f.1,
        omega (arith, low sample (min tolerance (gap - 1)) budget x h, f.2),
        omega (arith, high sample (min tolerance (gap - 1)) budget x h, f.3),
      )

-- ---- whatever says what the rule says
module _ (s : ℕ → ℕ) (len : ℕ) (few : len ≤ most_place) where
  -- without a gap there is no burst
  no_burst : (mask gap : ℕ) → gap < 1 → (sample tolerance budget : ℕ) → burst s len mask sample gap tolerance budget ≡ None
  unfolding burst_by
  no_burst mask gap h sample tolerance budget = go (eqb len 0) (lt-ltb gap 2 (omega (arith, h)))
    where
      around : Option Burst
      around = grown (previous s len mask) (next s len mask) gap budget (pair_of (previous s len mask) (next s len mask) gap (min tolerance (gap - 1)) sample (previous s len mask sample) (next s len mask sample))

      go : (b : Bool) → ltb gap 2 ≡ true → cond (b || ltb gap 2) None around ≡ None
      go true e = refl
      go false e = ap (λ (c : Bool). cond c None around) e

  some_gap_of : (mask sample gap tolerance budget : ℕ) (b : Burst) → burst s len mask sample gap tolerance budget ≡ Some b → 1 ≤ gap
  some_gap_of mask sample gap tolerance budget b e = go (dec_lt gap 1)
    where
      go : Dec (gap < 1) → 1 ≤ gap
      go (yes h) = absurd (none_some (sym (no_burst mask gap h sample tolerance budget) ∙ e))
      go (no h) = omega (arith, h)

  known : (mask gap : ℕ) (some-gap : 1 ≤ gap) (sample tolerance budget : ℕ) (b : Burst) → burst s len mask sample gap tolerance budget ≡ Some b → Grown s len mask gap some-gap few sample (min tolerance (gap - 1)) budget b
  known mask gap some-gap sample tolerance budget b e = subst (All s len mask gap some-gap few sample (min tolerance (gap - 1)) budget) e (burst_all s len mask gap some-gap few sample tolerance budget)

  -- what is known of a burst, with a gap that it has
  burst_known : (mask sample gap tolerance budget : ℕ) (b : Burst) (e : burst s len mask sample gap tolerance budget ≡ Some b)
      → Grown s len mask gap (some_gap_of mask sample gap tolerance budget b e) few sample (min tolerance (gap - 1)) budget b
  burst_known mask sample gap tolerance budget b e = known mask gap (some_gap_of mask sample gap tolerance budget b e) sample tolerance budget b e

  larger_rule : (mask sample gap tolerance budget more : ℕ) → budget ≤ more → NoSmaller (burst s len mask sample gap tolerance budget) (burst s len mask sample gap tolerance more)
  larger_rule mask sample gap tolerance budget more l = go (dec_lt gap 1)
    where
      go : Dec (gap < 1) → NoSmaller (burst s len mask sample gap tolerance budget) (burst s len mask sample gap tolerance more)
      go (yes h) = subst (λ (o : Option Burst). NoSmaller o (burst s len mask sample gap tolerance more)) (sym (no_burst mask gap h sample tolerance budget)) (subst (NoSmaller None) (sym (no_burst mask gap h sample tolerance more)) tt)
      go (no h) = larger_burst s len mask gap (omega (arith, h)) few sample tolerance budget more l

  pub says_meet : {Q : Type 0} (place : Q → ℕ) (Says : ℕ → Q → ℕ → ℕ → ℕ → Option Burst → Type 0)
      → ((mask : ℕ) (q : Q) (gap tolerance budget : ℕ) (o : Option Burst) → Says mask q gap tolerance budget o → burst s len mask (place q) gap tolerance budget ≡ o)
      → BurstsMeet s len place Says
  says_meet {Q} place Says is = record {
    any = λ mask q gap tolerance budget b h. (burst_known mask (place q) gap tolerance budget b (is mask q gap tolerance budget (Some b) h)).is_burst;
    behind = λ mask q gap tolerance budget b h. (burst_known mask (place q) gap tolerance budget b (is mask q gap tolerance budget (Some b) h)).behind;
    before = λ mask q gap tolerance budget b h. (burst_known mask (place q) gap tolerance budget b (is mask q gap tolerance budget (Some b) h)).before;
    meet = λ mask gap q₁ tolerance₁ budget₁ b q₂ tolerance₂ budget₂ c h m k n.
        let e = is mask q₁ gap tolerance₁ budget₁ (Some b) h in
        let g = some_gap_of mask (place q₁) gap tolerance₁ budget₁ b e in
        meet s len mask gap g few (place q₁) (min tolerance₁ (gap - 1)) budget₁ (place q₂) (min tolerance₂ (gap - 1)) budget₂ b c
        (known mask gap g (place q₁) tolerance₁ budget₁ b e) m (known mask gap g (place q₂) tolerance₂ budget₂ c (is mask q₂ gap tolerance₂ budget₂ (Some c) k)) n;
    larger = λ mask q gap tolerance budget more l o p h k.
        subst (NoSmaller o) (is mask q gap tolerance more p k)
        (subst (λ (x : Option Burst). NoSmaller x (burst s len mask (place q) gap tolerance more)) (is mask q gap tolerance budget o h) (larger_rule mask (place q) gap tolerance budget more l));
    unreached = λ mask q gap tolerance budget b h l.
        let f = (burst_known mask (place q) gap tolerance budget b (is mask q gap tolerance budget (Some b) h)).fewer in record { end = omega (arith, f.0, l); start = omega (arith, f.1, l) };
    around = λ mask q gap tolerance budget b h.
        let a = (burst_known mask (place q) gap tolerance budget b (is mask q gap tolerance budget (Some b) h)).around in (omega (arith, a.0), omega (arith, a.1));
    there = λ mask q gap tolerance budget o h c i ci other near.
        let x = there_burst s len mask gap (omega (arith, near)) few (place q) tolerance budget c i ci other near in
        (x.0, sym (is mask q gap tolerance budget o h) ∙ x.1, x.2, x.3);
  }

  -- the rule itself
  pub rule_meets : BurstsMeet s len (λ (sample : ℕ). sample) (λ mask sample gap tolerance budget answer. burst s len mask sample gap tolerance budget ≡ answer)
  rule_meets = says_meet (λ (sample : ℕ). sample) (λ mask sample gap tolerance budget answer. burst s len mask sample gap tolerance budget ≡ answer) (λ mask sample gap tolerance budget answer e. e)
