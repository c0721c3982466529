-- MARKS AND NAMES OF KEYS, from their texts a byte at a time: what is marked so far, how far two texts agree, and how two keys stand to each other. Assumes nothing.
use Rattle.std.specs.Prelude.{◌≡◌, ℕ, ◌+◌, ◌-◌, ◌*◌, ◌%◌, ◌<◌, ◌≢◌, Bool, true, false, List, [], ◌∷◌, ◌++◌, length, replicate, slice_index, slice_index_or, Some, None}
use Rattle.std.proofs.Math.Path.{refl, sym}
use Rattle.std.proofs.Common.{ap, ap₂, ◌∙◌, arith, rules}
use Rattle.std.proofs.Math.Nat.{mod-lt}
use Rattle.language.specs.Answered.{limit}
use Rattle.language.specs.Strings.{keybyte}
use Rattle.exact.specs.Class.{is, clash}
use Rattle.exact.specs.Place.{peek}
use Rattle.characters.specs.declared.Reading.{Reading}
use Rattle.characters.specs.Reads.{Took, ByteRead, byte_inside, byte_there, byte_next, byte_over}
use Rattle.exact.specs.Tells.{Tells}
use Rattle.repeats.specs.Mark.{marked, mark_from, mark}
use Rattle.repeats.specs.Numbering.{Numbering, Same, mark_of, stir}
use Rattle.repeats.specs.Order.{shorter, Ordered, ordered_less, ordered_more, ordered_further, name_of, name_same, apart}
use Rattle.spelt.specs.declared.spelling.Spelling.{Spelling}
use Rattle.places.specs.declared.names.Marks.{Marks}
use Rattle.std.specs.declared.cmp.Ordering.{Ordering}
use Rattle.std.specs.declared.cmp.Ordering.TheVariants.{Less, Equal, Greater}
use Rattle.std.specs.Ordering.{is_eq, is_ne, nat_cmp}
use Rattle.std.proofs.lemmas.Cmp.{ranked}
use Rattle.places.specs.Places.{object_at, place_at, spelled, place_keys}
use Rattle.spelt.specs.Spelling.{Given, Spellable, Gave, Nexts, Begins, weight, rest_tail, begin_bare, step}
use Rattle.spelt.specs.Standing.{further, Spells, Standing, Common, standing_next, standing_low, standing_less}
use Rattle.spelt.specs.Left.{key_more, key_over}
pub use Rattle.spelt.specs.Reading.{Keyed, keyed_low, Reads, reads_able, reads_first, reads_end, gave, reads_is, reads_on, Bare, bare_of, bare}
unfoldable pub use Rattle.spelt.specs.Reading.{others}

reads_spells : (doc room : List ℕ) (p : Spelling) (s : List ℕ) → Reads doc room p s → Spells doc p
reads_spells doc room p s x = record { room = room; able = reads_able doc room p s x }

pub begun_spells : (doc : List ℕ) (at : ℕ) (p : Spelling) → Keyed doc at → Begins doc at p → Spells doc p
begun_spells doc at p k h = reads_spells doc (replicate 8 0) p (spelled doc at) (reads_first doc at p k h)

-- ---- the marks of a key

pub record MarksOf (doc : List ℕ) (at object : ℕ) (r : Marks) : Type 0 where
  pub mark_is : r.mark ≡ mark (spelled doc at)
  pub stir_is : r.stir ≡ stir object (spelled doc at)
  pub low : r.stir < 4294967296

-- m and h are those of the bytes passed
pub record Marking (doc : List ℕ) (at object : ℕ) (room : List ℕ) (p : Spelling) (m h : ℕ) : Type 0 where
  pub text : List ℕ
  pub reads : Reads doc room p text
  pub marks : mark_from m text ≡ mark (spelled doc at)
  pub stirs : stir h text ≡ stir object (spelled doc at)
  pub low : h < 4294967296

module _ (doc : List ℕ) (at object : ℕ) where
  pub marking_first : (p : Spelling) → Keyed doc at → object < 4294967296 → Begins doc at p → Marking doc at object (replicate 8 0) p 0 object
  marking_first p k l h = record { text = spelled doc at; reads = reads_first doc at p k h; marks = refl; stirs = refl; low = l }

  module _ (room : List ℕ) (p : Spelling) (m h : ℕ) (x : Marking doc at object room p m h) where
    pub marking_able : Spellable doc room p
    marking_able = reads_able doc room p x.text x.reads

    module _ (room' : List ℕ) (g : Given) (y : Nexts doc room p room' g) where
      pub marking_done : g ≡ None → MarksOf doc at object (record { mark = m; stir = h })
      unfolding mark_from stir
      marking_done e =
          let z = reads_end doc room p x.text x.reads room' g y e in
          record { mark_is = rw z at x.marks; stir_is = rw z at x.stirs; low = x.low }

      module _ (b : ℕ) (n : Spelling) (e : g ≡ Some (b, n)) where
        pub marking_less : weight doc n < weight doc p
        marking_less = (gave doc room p x.text x.reads room' g y b n e).less

        pub marking_more : length room' ≡ length room → (m' h' : ℕ) → m' ≡ marked m b → h' ≡ (31 * h + b) % 4294967296 → Marking doc at object room' n m' h'
        unfolding mark_from stir
        marking_more l m' h' u v =
            let z = reads_is doc room p x.text x.reads room' g y b n e in
            rw (u, v)
            (record {
              text = others doc room p x.text x.reads room' g y b n e;
              reads = reads_on doc room p x.text x.reads room' g y b n e l;
              marks = rw z at x.marks;
              stirs = rw z at x.stirs;
              low = mod-lt (31 * h + b) (omega arith);
            })

    pub marking_spells : Spells doc p
    marking_spells = reads_spells doc room p x.text x.reads

    -- a byte that stands as it is
    module _ (v : ℕ) (y : Standing doc p v) (l : v < 256) where
      pub marking_further : p.at < limit
      marking_further = standing_low doc p v y l marking_spells

      module _ (n : Spelling) (i : n ≡ further p) where
        pub marking_lower : weight doc n < weight doc p
        marking_lower = rw i (standing_less doc p v y l)

        pub marking_stood : (m' h' : ℕ) → m' ≡ marked m v → h' ≡ (31 * h + v) % 4294967296 → Marking doc at object room n m' h'
        marking_stood m' h' e f = rw i (marking_more room (Some (v, further p)) (standing_next doc p v y l room) v (further p) refl refl m' h' e f)

-- ---- the marks of a bare key, as it stands

-- m and h are those of the bytes up to a
abbrev pub BareMarking : List ℕ → ℕ → ℕ → ℕ → ℕ → ℕ → Type 0
BareMarking doc at object a m h = Marking doc at object (replicate 8 0) (bare a) m h

module _ (doc : List ℕ) (at object : ℕ) where
  pub bare_first : Keyed doc at → object < 4294967296 → Bare doc at → BareMarking doc at object at 0 object
  bare_first k l b = marking_first doc at object (bare at) k l (begin_bare doc at (peek doc at) refl b.no_double b.no_single)

  module _ (a m h : ℕ) (x : BareMarking doc at object a m h) where
    ended : is keybyte (peek doc a) ≡ false → MarksOf doc at object (record { mark = m; stir = h })
    unfolding Nexts
    ended e =
        marking_done doc at object (replicate 8 0) (bare a) m h x (replicate 8 0) None
        (λ s r. key_over doc 0 a refl s (rest_tail doc (replicate 8 0) (bare a) s (omega arith) r) e) refl

    module _ (t : Took) (g : ByteRead doc a t) where
      pub bare_over : t ≡ None → MarksOf doc at object (record { mark = m; stir = h })
      bare_over e = let z = byte_over doc a t g e in ended (rw z refl)

      module _ (b : ℕ) (n : Reading) (e : t ≡ Some (b, n)) where
        pub bare_less : length doc - n.at < length doc - a
        bare_less = omega (arith, byte_inside doc a t g b n e, byte_next doc a t g b n e)

        module _ (y : Bool) (k : y ≡ is keybyte b) where
          there : is keybyte (peek doc a) ≡ y
          there = ap (is keybyte) (sym (byte_there doc a t g b n e)) ∙ sym k

          pub bare_ended : y ≡ false → MarksOf doc at object (record { mark = m; stir = h })
          bare_ended f = ended (there ∙ f)

          pub bare_more : (m' h' : ℕ) → y ≡ true → m' ≡ marked m b → h' ≡ (31 * h + b) % 4294967296 → BareMarking doc at object n.at m' h'
          unfolding Nexts
          bare_more m' h' f u v =
              let z : Gave doc (replicate 8 0) (bare a) (replicate 8 0) b (bare (a + 1)) =
              rw (byte_there doc a t g b n e)
              (step doc (replicate 8 0) (bare a) (peek doc a) (byte_inside doc a t g b n e) (λ s r. key_more doc 0 a refl s (rest_tail doc (replicate 8 0) (bare a) s (omega arith) r) (there ∙ f))) in
              rw (byte_next doc a t g b n e)
              (marking_more doc at object (replicate 8 0) (bare a) m h x (replicate 8 0) (Some (b, bare (a + 1))) z b (bare (a + 1)) refl refl m' h' u v)

    pub bare_low : h < 4294967296
    bare_low = x.low

-- ---- the order of two texts

-- numbers that are not the same, in front of two texts
ordered_by : (c d : ℕ) (s t : List ℕ) (r : Ordering) → r ≡ nat_cmp c d → is_ne r ≡ true → Ordered (c ∷ s) (d ∷ t) r
ordered_by c d s t Less e h = ordered_less c d s t (ranked c d Less e)
ordered_by c d s t Equal e h = absurd (clash h refl)
ordered_by c d s t Greater e h = ordered_more c d s t (ranked c d Greater e)

alike_by : (c d : ℕ) (r : Ordering) → r ≡ nat_cmp c d → is_ne r ≡ false → c ≡ d
alike_by c d Less e h = absurd (clash refl h)
alike_by c d Equal e h = ranked c d Equal e
alike_by c d Greater e h = absurd (clash refl h)

ordered_apart : (c d : ℕ) (s t : List ℕ) → (c ≢ d) → (r : Ordering) → r ≡ nat_cmp c d → Ordered (c ∷ s) (d ∷ t) r
ordered_apart c d s t l Less e = ordered_less c d s t (ranked c d Less e)
ordered_apart c d s t l Equal e = absurd (l (ranked c d Equal e))
ordered_apart c d s t l Greater e = ordered_more c d s t (ranked c d Greater e)

-- texts that begin with the same bytes stand to each other as what is behind them
ordered_behind : (w s t : List ℕ) (r : Ordering) → Ordered s t r → Ordered (w ++ s) (w ++ t) r
ordered_behind [] s t r x = x
ordered_behind (c ∷ w) s t r x = ordered_further c c (w ++ s) (w ++ t) refl r (ordered_behind w s t r x)

-- two texts agree so far: they stand to each other as what is left of them does
pub record Agree (doc : List ℕ) (a b : ℕ) (room : List ℕ) (p : Spelling) (room₂ : List ℕ) (q : Spelling) : Type 0 where
  pub one : List ℕ
  pub two : List ℕ
  pub first : Reads doc room p one
  pub second : Reads doc room₂ q two
  pub back : (r : Ordering) → Ordered one two r → Ordered (spelled doc a) (spelled doc b) r

module _ (doc : List ℕ) (a b : ℕ) where
  pub agree_first : (p q : Spelling) → Keyed doc a → Keyed doc b → Begins doc a p → Begins doc b q → Agree doc a b (replicate 8 0) p (replicate 8 0) q
  agree_first p q k l g h =
      record { one = spelled doc a; two = spelled doc b; first = reads_first doc a p k g; second = reads_first doc b q l h; back = λ r x. x }

  module _ (room : List ℕ) (p : Spelling) (room₂ : List ℕ) (q : Spelling) (x : Agree doc a b room p room₂ q) where
    pub agree_able : Spellable doc room p
    agree_able = reads_able doc room p x.one x.first

    pub agree_able₂ : Spellable doc room₂ q
    agree_able₂ = reads_able doc room₂ q x.two x.second

    -- the bytes in common passed
    agree_common : (n m : Spelling) → Common doc p q n m → Agree doc a b room n room₂ m
    agree_common n m c =
        let f = c.one.more room x.one x.first.rest in
        let g = c.two.more room₂ x.two x.second.rest in
        record {
          one = f.others;
          two = g.others;
          first = record { short = x.first.short; long = x.first.long; rest = f.rest };
          second = record { short = x.second.short; long = x.second.long; rest = g.rest };
          back = λ r w. x.back r (rw (f.is, g.is) (ordered_behind c.bytes f.others g.others r w));
        }

    module _ (room' : List ℕ) (g : Given) (y : Nexts doc room p room' g) (room₂' : List ℕ) (h : Given) (z : Nexts doc room₂ q room₂' h) where
      over : g ≡ None → x.one ≡ []
      over e = reads_end doc room p x.one x.first room' g y e

      over₂ : h ≡ None → x.two ≡ []
      over₂ e = reads_end doc room₂ q x.two x.second room₂' h z e

      pub agree_same : g ≡ None → h ≡ None → Ordered (spelled doc a) (spelled doc b) Equal
      unfolding Ordered
      agree_same e f = x.back Equal (over e ∙ sym (over₂ f))

      pub agree_shorter : (v : ℕ × Spelling) → g ≡ None → h ≡ Some v → Ordered (spelled doc a) (spelled doc b) Less
      unfolding Ordered
      agree_shorter v e f =
          let u = reads_is doc room₂ q x.two x.second room₂' h z v.0 v.1 f in
          x.back Less (rw (over e, u) shorter)

      pub agree_longer : (c : ℕ) (n : Spelling) → g ≡ Some (c, n) → h ≡ None → Ordered (spelled doc a) (spelled doc b) Greater
      unfolding Ordered
      agree_longer c n e f =
          let u = reads_is doc room p x.one x.first room' g y c n e in
          x.back Greater (rw (over₂ f, u) shorter)

      module _ (c d : ℕ) (n m : Spelling) (e : g ≡ Some (c, n)) (f : h ≡ Some (d, m)) where
        abbrev one_others : List ℕ
        one_others = others doc room p x.one x.first room' g y c n e

        abbrev two_others : List ℕ
        two_others = others doc room₂ q x.two x.second room₂' h z d m f

        onto : (r : Ordering) → Ordered (c ∷ one_others) (d ∷ two_others) r → Ordered (spelled doc a) (spelled doc b) r
        onto r w =
            let u = reads_is doc room p x.one x.first room' g y c n e in
            let v = reads_is doc room₂ q x.two x.second room₂' h z d m f in
            x.back r (rw (u, v) w)

        pub agree_apart : (c ≢ d) → (r : Ordering) → r ≡ nat_cmp c d → Ordered (spelled doc a) (spelled doc b) r
        agree_apart l r k = onto r (ordered_apart c d one_others two_others l r k)

        pub agree_weight : (n' m' : Spelling) → Common doc n m n' m' → weight doc n' < weight doc p
        agree_weight n' m' k = let l = (gave doc room p x.one x.first room' g y c n e).less in omega (arith, k.one.less)

        agree_on : c ≡ d → length room' ≡ length room → length room₂' ≡ length room₂ → Agree doc a b room' n room₂' m
        agree_on k i j =
            record {
              one = one_others;
              two = two_others;
              first = reads_on doc room p x.one x.first room' g y c n e i;
              second = reads_on doc room₂ q x.two x.second room₂' h z d m f j;
              back = λ r w. onto r (ordered_further c d one_others two_others k r w);
            }

        module _ (i : length room' ≡ length room) (j : length room₂' ≡ length room₂) where
          pub agree_spells : Spells doc n
          agree_spells = reads_spells doc room' n one_others (reads_on doc room p x.one x.first room' g y c n e i)

          pub agree_spells₂ : Spells doc m
          agree_spells₂ = reads_spells doc room₂' m two_others (reads_on doc room₂ q x.two x.second room₂' h z d m f j)

-- what is left of two texts, with the bytes in common passed
module _ (doc : List ℕ) (a b : ℕ) where
  pub agree_begun : (p q : Spelling) → Keyed doc a → Keyed doc b → Begins doc a p → Begins doc b q → (n m : Spelling) → Common doc p q n m → Agree doc a b (replicate 8 0) n (replicate 8 0) m
  agree_begun p q k l g h = agree_common doc a b (replicate 8 0) p (replicate 8 0) q (agree_first doc a b p q k l g h)

  module _ (room : List ℕ) (p : Spelling) (room₂ : List ℕ) (q : Spelling) (x : Agree doc a b room p room₂ q) (room' : List ℕ) (g : Given) (y : Nexts doc room p room' g) (room₂' : List ℕ) (h : Given) (z : Nexts doc room₂ q room₂' h) (c d : ℕ) (n m : Spelling)
      (e : g ≡ Some (c, n)) (f : h ≡ Some (d, m)) where
    pub agree_further : c ≡ d → length room' ≡ length room → length room₂' ≡ length room₂ → (n' m' : Spelling) → Common doc n m n' m' → Agree doc a b room' n' room₂' m'
    agree_further k i j = agree_common doc a b room' n room₂' m (agree_on doc a b room p room₂ q x room' g y room₂' h z c d n m e f k i j)

-- ---- the order of two keys

-- keys i and k stand at their places, and their marks are stored
pub record Compared (doc keys marks : List ℕ) (i k : ℕ) : Type 0 where
  pub one : Keyed doc (place_at keys i)
  pub two : Keyed doc (place_at keys k)
  pub room : 4 + 2 * i + 1 < length keys
  pub room₂ : 4 + 2 * k + 1 < length keys
  pub low : i < length marks
  pub low₂ : k < length marks
  pub mark_is : slice_index_or marks i 0 ≡ mark_of (place_keys doc keys) i
  pub mark_is₂ : slice_index_or marks k 0 ≡ mark_of (place_keys doc keys) k

abbrev pub Stand : List ℕ → List ℕ → ℕ → ℕ → Ordering → Type 0
Stand doc keys i k r = Ordered (name_of (place_keys doc keys) i) (name_of (place_keys doc keys) k) r

module _ (doc keys marks : List ℕ) (i k : ℕ) (w : Compared doc keys marks i k) where
  abbrev N : Numbering
  N = place_keys doc keys

  pub compared_one : (a : ℕ) → a ≡ place_at keys i → Keyed doc a
  compared_one a e = rw e w.one

  pub compared_two : (a : ℕ) → a ≡ place_at keys k → Keyed doc a
  compared_two a e = rw e w.two

  module _ (r : Ordering) (z : r ≡ nat_cmp (slice_index marks i) (slice_index marks k)) where
    pub mark_apart : (b : Bool) → b ≡ is_ne r → b ≡ true → Stand doc keys i k r
    mark_apart b g t = let h : is_ne r ≡ true = sym g ∙ t in ordered_by (mark_of N i) (mark_of N k) (N.object i ∷ N.text i) (N.object k ∷ N.text k) r (z ∙ ap₂ nat_cmp w.mark_is w.mark_is₂) h

    module _ (b : Bool) (g : b ≡ is_ne r) (h : b ≡ false) where
      marked_alike : (r : Ordering) → Ordered (N.object i ∷ N.text i) (N.object k ∷ N.text k) r → Stand doc keys i k r
      marked_alike s x = ordered_further (mark_of N i) (mark_of N k) (N.object i ∷ N.text i) (N.object k ∷ N.text k) (alike_by (mark_of N i) (mark_of N k) r (z ∙ ap₂ nat_cmp w.mark_is w.mark_is₂) (sym g ∙ h)) s x

      module _ (s : Ordering) (x y : ℕ) (e : x ≡ object_at keys i) (f : y ≡ object_at keys k) (u : s ≡ nat_cmp x y) where
        pub object_apart : (d : Bool) → d ≡ is_ne s → d ≡ true → Stand doc keys i k s
        object_apart d o t = let v : is_ne s ≡ true = sym o ∙ t in marked_alike s (ordered_by (N.object i) (N.object k) (N.text i) (N.text k) s (u ∙ ap₂ nat_cmp e f) v)

        pub text_order : (a b : ℕ) (t : Ordering) (d : Bool) → d ≡ is_ne s → d ≡ false → a ≡ place_at keys i → b ≡ place_at keys k → Ordered (spelled doc a) (spelled doc b) t → Stand doc keys i k t
        text_order a b t d o v g m n = marked_alike t (ordered_further (N.object i) (N.object k) (N.text i) (N.text k) (alike_by (N.object i) (N.object k) s (u ∙ ap₂ nat_cmp e f) (sym o ∙ v)) t (rw (g, m) at n))

pub stand_tells : (doc keys : List ℕ) (i k : ℕ) (r : Ordering) → Stand doc keys i k r → (b : Bool) → b ≡ is_eq r → Tells (Same (place_keys doc keys) i k) b
unfolding Ordered
stand_tells doc keys i k Less x b e = rw e (apart (place_keys doc keys) i k x)
stand_tells doc keys i k Equal x b e = rw e (name_same (place_keys doc keys) i k x)
stand_tells doc keys i k Greater x b e = rw e (λ s. apart (place_keys doc keys) k i x (record { objects = sym s.objects; texts = sym s.texts }))

pub ruleset baring = (bare_first, bare_over, bare_less, bare_ended, bare_more, bare_low, rules)

pub ruleset marking = (bare_of, keyed_low, marking_first, marking_able, marking_done, marking_less, marking_more, marking_spells, marking_further, marking_lower, marking_stood, rules)

pub ruleset agreeing = (keyed_low, begun_spells, agree_begun, agree_able, agree_able₂, agree_same, agree_shorter, agree_longer, agree_apart, agree_spells, agree_spells₂, agree_weight, agree_further, rules)

pub ruleset comparing = (compared_one, compared_two, mark_apart, object_apart, text_order, rules)

pub ruleset standing = (stand_tells, rules)
