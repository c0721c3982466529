-- WHERE THE WALK STANDS between two rows, and how it goes on. Assumes nothing.
use Rattle.std.specs.Prelude.{◌≡◌, List, ℕ, ◌+◌, ◌-◌, ◌≤◌, ◌<◌, max, length, get_or}
use Rattle.std.proofs.Common.{subst, arith}
use Rattle.std.proofs.Math.Decide.{dec_le}
use Rattle.notation.specs.Class.{only}
use Rattle.language.specs.Answered.{limit}
use Rattle.language.specs.Lines.{tail, line_of, column_of}
use Rattle.lined.specs.declared.Walk.{Walk}
use Rattle.lined.specs.Counted.{hit}
use Rattle.lined.specs.Between.{between, between_none, between_cut, between_most}
use Rattle.lined.specs.Places.{Begins, begins_first, begins_behind, line_at, column_at}
use Rattle.lined.specs.Searching.{Clear, Next, Behind, clear_first, clear_later}

-- the walk, on its way to p, with e the place of the last row: the line begins at `begin`, and the tails in it are counted up to `from`
pub record Stands (doc : List ℕ) (e p : ℕ) (w : Walk) : Type 0 where
  pub small : length doc ≤ limit
  pub last : e ≤ length doc
  pub before : p ≤ e
  pub inside : p ≤ length doc
  pub begin : ℕ
  pub begins : Begins doc begin
  pub from : ℕ
  pub ahead : begin ≤ from
  pub reached : from ≤ p
  pub in_line : from ≤ w.feed
  pub line : w.line ≡ 1 + between (only 10) doc 0 begin
  pub start : w.start ≡ begin + between tail doc begin w.tail
  pub feeds : Next (only 10) doc e begin w.feed
  pub tails : Clear tail doc from w.tail

-- the walk at p: its line and its column are told
pub record At (doc : List ℕ) (e p : ℕ) (w : Walk) : Type 0 where
  pub stands : Stands doc e p w
  pub line : w.line ≡ line_of doc p
  pub start : w.start ≤ p
  pub column : p + 1 - w.start ≡ column_of doc p

module _ (doc : List ℕ) (e : ℕ) where
  pub stands_first : (f t : ℕ) → length doc ≤ limit → e ≤ length doc → Next (only 10) doc e 0 f → Clear tail doc 0 t → Stands doc e 0 (record { line = 1; start = 0; feed = f; tail = t })
  stands_first f t l k x y =
      record {
        small = l;
        last = k;
        before = omega arith;
        inside = omega arith;
        begin = 0;
        begins = begins_first doc;
        from = 0;
        ahead = omega arith;
        reached = omega arith;
        in_line = omega arith;
        line = omega (arith, between_none (only 10) doc 0);
        start = omega (arith, y.clear);
        feeds = x;
        tails = y;
      }

  -- on its way to a later place
  pub stands_on : (p q : ℕ) (w : Walk) → Stands doc e p w → p ≤ q → q ≤ e → Stands doc e q w
  stands_on p q w s h l =
      record {
        small = s.small;
        last = s.last;
        before = l;
        inside = omega (arith, s.last);
        begin = s.begin;
        begins = s.begins;
        from = s.from;
        ahead = s.ahead;
        reached = omega (arith, s.reached);
        in_line = s.in_line;
        line = s.line;
        start = s.start;
        feeds = s.feeds;
        tails = s.tails;
      }

  module _ (p : ℕ) (w : Walk) (s : Stands doc e p w) where
    -- into a later line
    module _ (l : w.feed < p) where
      pub feed_here : hit (only 10) (get_or doc w.feed 0) ≡ 1
      feed_here = s.feeds.found (omega (arith, s.before))

      pub line_fits : (n : ℕ) → n ≡ between (only 10) doc w.feed p → w.line + n ≤ 1 + limit
      line_fits n q =
          omega (
            arith,
            s.line,
            s.small,
            s.inside,
            s.feeds.none.ahead,
            s.feeds.none.inside,
            between_most (only 10) doc 0 s.begin (omega (arith, s.feeds.none.ahead, s.feeds.none.inside)),
            between_most (only 10) doc w.feed p s.inside,
          )

      pub stands_down : (n b f t : ℕ) → n ≡ between (only 10) doc w.feed p → Behind doc w.feed p b → Next (only 10) doc e p f → Clear tail doc b t
          → Stands doc e p (record { line = w.line + n; start = b; feed = f; tail = t }) × (p ≤ f)
      stands_down n b f t q h x y =
          let a = s.begin in
          let g = w.feed in
          let i : b ≤ length doc = omega (arith, h.before, s.inside) in
          let j : b - 1 + 1 ≡ b = omega (arith, h.later) in
          let k = s.feeds.none in
          let first = between_cut (only 10) doc 0 a b (omega arith) (omega (arith, k.ahead, h.later)) i in
          let second = between_cut (only 10) doc a g b k.ahead (omega (arith, h.later)) i in
          let third = between_cut (only 10) doc g b p (omega (arith, h.later)) h.before s.inside in
          let fourth = between_cut (only 10) doc b p f h.before x.none.ahead x.none.inside in (
            record {
              small = s.small;
              last = s.last;
              before = s.before;
              inside = s.inside;
              begin = b;
              begins = rw j at (begins_behind doc (b - 1) (omega (arith, h.later)) h.feed);
              from = b;
              ahead = omega arith;
              reached = h.before;
              in_line = omega (arith, h.before, x.none.ahead);
              line = omega (arith, s.line, k.clear, h.clear);
              start = omega (arith, y.clear);
              feeds = record { none = record { ahead = omega (arith, h.before, x.none.ahead); inside = x.none.inside; clear = omega (arith, h.clear, x.none.clear) }; found = x.found };
              tails = y;
            },
            x.none.ahead,
          )

      -- with the tail that is known
      pub stands_under : (n b f : ℕ) → n ≡ between (only 10) doc w.feed p → Behind doc w.feed p b → Next (only 10) doc e p f → b ≤ w.tail
          → Stands doc e p (record { line = w.line + n; start = b; feed = f; tail = w.tail }) × (p ≤ f)
      stands_under n b f q h x g =
          stands_down n b f w.tail q h x (clear_later tail doc s.from b w.tail s.tails (omega (arith, s.in_line, h.later)) g)

      -- with the later of that tail and the line's begin
      pub stands_below : (n b f t : ℕ) → n ≡ between (only 10) doc w.feed p → Behind doc w.feed p b → Next (only 10) doc e p f → t ≡ max w.tail b
          → Stands doc e p (record { line = w.line + n; start = b; feed = f; tail = t }) × (p ≤ f)
      stands_below n b f t q h x y = by (dec_le b w.tail)
        where
          Goes : ℕ → Type 0
          Goes k = Stands doc e p (record { line = w.line + n; start = b; feed = f; tail = k }) × (p ≤ f)

          by : Dec (b ≤ w.tail) → Goes t
          by (yes g) = let z : w.tail ≡ t = omega arith in subst Goes z (stands_under n b f q h x g)
          by (no g) = let z : b ≡ t = omega arith in subst Goes z (stands_down n b f b q h x (clear_first tail doc b (omega (arith, h.before, s.inside))))

    -- in the same line
    module _ (l : p ≤ w.feed) where
      pub stands_here : p ≤ w.tail → At doc e p w
      stands_here m =
          let b = s.begin in
          let g : b ≤ p = omega (arith, s.ahead, s.reached) in
          let k = s.feeds.none in
          let t = s.tails in
          let first = between_cut (only 10) doc b p w.feed g l k.inside in
          let second = between_cut (only 10) doc 0 b p (omega arith) g s.inside in
          let third = between_cut tail doc b p w.tail g m t.inside in
          let fourth = between_cut tail doc s.from p w.tail s.reached m t.inside in
          let fifth = column_at doc b p s.begins g s.inside (omega (arith, k.clear)) in
          let sixth = between_most tail doc b p s.inside in
          record {
            stands = s;
            line = omega (arith, s.line, k.clear, line_at doc p);
            start = omega (arith, s.start, t.clear);
            column = omega (arith, s.start, t.clear);
          }

      module _ (m : w.tail < p) (n : ℕ) (q : n ≡ between tail doc w.tail p) where
        pub start_fits : w.start + n ≤ limit
        start_fits =
            let b = s.begin in
            let t = s.tails in
            omega
            (arith, s.start, s.small, s.inside, s.ahead, t.ahead, between_most tail doc b w.tail t.inside, between_most tail doc w.tail p s.inside)

        along : (t : ℕ) → Clear tail doc p t → Stands doc e p (record { line = w.line; start = w.start + n; feed = w.feed; tail = t })
        along t x =
            let b = s.begin in
            let g : b ≤ w.tail = omega (arith, s.ahead, s.tails.ahead) in
            let first = between_cut tail doc b w.tail t g (omega (arith, x.ahead)) x.inside in
            let second = between_cut tail doc w.tail p t (omega arith) x.ahead x.inside in
            record {
              small = s.small;
              last = s.last;
              before = s.before;
              inside = s.inside;
              begin = b;
              begins = s.begins;
              from = p;
              ahead = omega arith;
              reached = omega arith;
              in_line = l;
              line = s.line;
              start = omega (arith, s.start, x.clear);
              feeds = s.feeds;
              tails = x;
            }

  pub stands_along : (p n t : ℕ) (w : Walk) → Stands doc e p w → p ≤ w.feed → w.tail < p → n ≡ between tail doc w.tail p → Clear tail doc p t
      → At doc e p (record { line = w.line; start = w.start + n; feed = w.feed; tail = t })
  stands_along p n t w s l m q x = stands_here p (record { line = w.line; start = w.start + n; feed = w.feed; tail = t }) (along p w s l m n q t x) l x.ahead
