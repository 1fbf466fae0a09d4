-- Batches that reading accepts: every event is on a table, with a row of its width; the numbers of refusals. Assumes nothing.
-- rule 13 of a record that breaks none
use mathlib.Core.Bool.{◌&&◌, Bool, cond, false, not, true, ◌||◌, true≢false}
use mathlib.Core.List.{◌++◌, List, [], ◌∷◌}
use mathlib.Core.Path.{refl, ◌≡◌}
use Prim.Native.Nat.{◌*◌, ◌+◌, ◌<◌, ℕ}
use native.Mathlib.Omega.{arith}
use lib.Dec.{eqb, leb, ltb}
use lib.ListN.{get_or, length}
use borrow.Author.Tests.{eqb-true, ltb-true}
use Rattle.model.specs.Network.{Node, widths, node_at, is_table, within}
use Rattle.model.specs.Record.{Bytes, field_at, first_broken, is_broken, kind_at, length_at, offsets, refused, rule, is_accepted}
use Rattle.model.specs.Batch.{Event, event_at, event_fault, event_fits, event_of, max_events, read_batch, read_events, row_in}
use Rattle.states.proofs.Tables.{GoodEvent, GoodEvents}
use Rattle.laws.proofs.Sets.{and_first, and_second}
use Rattle.laws.proofs.Events.{length-row_in}

last_holds : (a b c e : Bool) → first_broken (rule 10 a ∷ rule 11 b ∷ rule 12 c ∷ rule 13 (not e) ∷ []) ≡ 0 → e ≡ true
last_holds true b c e h = absurd (omega arith)
last_holds false true c e h = absurd (omega arith)
last_holds false false true e h = absurd (omega arith)
last_holds false false false true h = refl
last_holds false false false false h = absurd (omega arith)

-- a record that is refused has a number from 10 to 13
high : (a b c e : Bool) → first_broken (rule 10 a ∷ rule 11 b ∷ rule 12 c ∷ rule 13 e ∷ []) ≡ 8 → ⊥
high true b c e h = absurd (omega arith)
high false true c e h = absurd (omega arith)
high false false true e h = absurd (omega arith)
high false false false true h = absurd (omega arith)
high false false false false h = absurd (omega arith)

-- the numbers of rules 10 to 13
numbered : (a b c e : Bool) → eqb (first_broken (rule 10 a ∷ rule 11 b ∷ rule 12 c ∷ rule 13 e ∷ [])) 0 ≡ false →
    within 9 13 (first_broken (rule 10 a ∷ rule 11 b ∷ rule 12 c ∷ rule 13 e ∷ [])) ≡ true
numbered true b c e h = refl
numbered false true c e h = refl
numbered false false true e h = refl
numbered false false false true h = refl
numbered false false false false h = absurd (true≢false h)

module _ (nodes : List Node) (bs : Bytes) where
  event_good : (before at : ℕ) → event_fault nodes before bs at ≡ 0 → GoodEvent nodes (event_at (widths nodes) bs at)
  unfolding event_fault event_fits event_at
  event_good before at z =
      let t : ℕ = field_at bs at 0 in
      let fits : event_fits nodes bs at ≡ true = last_holds (is_broken bs at) (not (eqb (kind_at bs at) 32 || eqb (kind_at bs at) 33)) (leb max_events before) (event_fits nodes bs at) z in
      let three : (leb 6 (length_at bs at) && ltb (field_at bs at 0) (length nodes) && is_table (node_at nodes (field_at bs at 0)))
      ≡ true = and_first (leb 6 (length_at bs at) && ltb (field_at bs at 0) (length nodes) && is_table (node_at nodes (field_at bs at 0)))
      (eqb (length_at bs at) (6 + 4 * get_or (widths nodes) (field_at bs at 0) 0)) fits in
      let two : (leb 6 (length_at bs at) && ltb (field_at bs at 0) (length nodes)) ≡ true = and_first (leb 6 (length_at bs at) && ltb (field_at bs at 0) (length nodes))
      (is_table (node_at nodes (field_at bs at 0))) three in
      go (eqb (kind_at bs at) 32) (ltb-true (field_at bs at 0) (length nodes) (and_second (leb 6 (length_at bs at)) (ltb (field_at bs at 0) (length nodes)) two))
      (and_second (leb 6 (length_at bs at) && ltb (field_at bs at 0) (length nodes)) (is_table (node_at nodes (field_at bs at 0))) three)
    where
      go : (k : Bool) → field_at bs at 0 < length nodes → is_table (node_at nodes (field_at bs at 0)) ≡ true →
          GoodEvent nodes (event_of k (field_at bs at 0) (row_in bs (at + 6) (get_or (widths nodes) (field_at bs at 0) 0)))
      go true a b = (a, b, length-row_in bs (at + 6) (get_or (widths nodes) (field_at bs at 0) 0))
      go false a b = (a, b, length-row_in bs (at + 6) (get_or (widths nodes) (field_at bs at 0) 0))

  good_more : (events : List Event) (e : Event) → GoodEvents nodes events → GoodEvent nodes e → GoodEvents nodes (events ++ (e ∷ []))
  good_more [] e g h = (h, tt)
  good_more (x ∷ events) e g h = (g.0, good_more events e g.1 h)

  events-good : (done : List Event) (ats : List ℕ) → GoodEvents nodes done → GoodEvents nodes (read_events nodes bs done ats).events
  unfolding read_events
  events-good done [] g = g
  events-good done (at ∷ rest) g = go (eqb (event_fault nodes (length done) bs at) 0) refl (events-good (done ++ (event_at (widths nodes) bs at ∷ [])) rest)
    where
      go : (t : Bool) → eqb (event_fault nodes (length done) bs at) 0 ≡ t →
          (GoodEvents nodes (done ++ (event_at (widths nodes) bs at ∷ [])) → GoodEvents nodes (read_events nodes bs (done ++ (event_at (widths nodes) bs at ∷ [])) rest).events) →
          GoodEvents nodes (cond t (read_events nodes bs (done ++ (event_at (widths nodes) bs at ∷ [])) rest)
          (record { verdict = refused (event_fault nodes (length done) bs at) at; events = [] })).events
      go true e ih = ih (good_more done (event_at (widths nodes) bs at) g (event_good (length done) at (eqb-true (event_fault nodes (length done) bs at) 0 e)))
      go false e ih = tt

  events_high : (done : List Event) (ats : List ℕ) → (read_events nodes bs done ats).verdict.number ≡ 8 → ⊥
  unfolding read_events event_fault
  events_high done [] z = absurd (omega arith)
  events_high done (at ∷ rest) z = go (eqb (event_fault nodes (length done) bs at) 0) z (events_high (done ++ (event_at (widths nodes) bs at ∷ [])) rest)
    where
      go : (t : Bool) → (cond t (read_events nodes bs (done ++ (event_at (widths nodes) bs at ∷ [])) rest)
          (record { verdict = refused (event_fault nodes (length done) bs at) at; events = [] })).verdict.number ≡ 8 →
          ((read_events nodes bs (done ++ (event_at (widths nodes) bs at ∷ [])) rest).verdict.number ≡ 8 → ⊥) → ⊥
      go true y ih = ih y
      go false y ih = high (is_broken bs at) (not (eqb (kind_at bs at) 32 || eqb (kind_at bs at) 33)) (leb max_events (length done)) (not (event_fits nodes bs at)) y

  -- every event of a batch is on a table
  pub batch-good : GoodEvents nodes (read_batch nodes bs).events
  unfolding read_batch
  batch-good = events-good [] (offsets bs) tt

  -- no batch is refused with 8
  pub batch_high : (read_batch nodes bs).verdict.number ≡ 8 → ⊥
  unfolding read_batch
  batch_high = events_high [] (offsets bs)

  events-within : (done : List Event) (ats : List ℕ) → is_accepted (read_events nodes bs done ats).verdict ≡ false → within 9 13 (read_events nodes bs done ats).verdict.number ≡ true
  unfolding read_events event_fault
  events-within done [] z = absurd (true≢false z)
  events-within done (at ∷ rest) z = go (eqb (event_fault nodes (length done) bs at) 0) refl z (events-within (done ++ (event_at (widths nodes) bs at ∷ [])) rest)
    where
      go : (t : Bool) → eqb (event_fault nodes (length done) bs at) 0 ≡ t →
          is_accepted (cond t (read_events nodes bs (done ++ (event_at (widths nodes) bs at ∷ [])) rest)
          (record { verdict = refused (event_fault nodes (length done) bs at) at; events = [] })).verdict ≡ false →
          (is_accepted (read_events nodes bs (done ++ (event_at (widths nodes) bs at ∷ [])) rest).verdict ≡ false →
          within 9 13 (read_events nodes bs (done ++ (event_at (widths nodes) bs at ∷ [])) rest).verdict.number ≡ true) →
          within 9 13 (cond t (read_events nodes bs (done ++ (event_at (widths nodes) bs at ∷ [])) rest)
          (record { verdict = refused (event_fault nodes (length done) bs at) at; events = [] })).verdict.number ≡ true
      go true e y ih = ih y
      go false e y ih = numbered (is_broken bs at) (not (eqb (kind_at bs at) 32 || eqb (kind_at bs at) 33)) (leb max_events (length done)) (not (event_fits nodes bs at)) e

  -- a batch that reading refuses has a number from 10 to 13
  pub batch-within : is_accepted (read_batch nodes bs).verdict ≡ false → within 9 13 (read_batch nodes bs).verdict.number ≡ true
  unfolding read_batch
  batch-within = events-within [] (offsets bs)
