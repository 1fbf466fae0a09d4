-- An operation that was run, by its kind. Assumes nothing.
use mathlib.Core.Path.{ap, refl, sym, ◌∙◌, ◌≡◌}
use mathlib.Core.Logic.{◌⊎◌, inl, inr}
use mathlib.Core.List.{[], ◌++◌, append-nil}
use Prim.Native.Nat.{ℕ, ◌+◌, ◌≤◌}
use native.Mathlib.Omega.{arith}
use lib.ListN.{drop, length, length-take, replicate, take}
use lib.Seq.{length-sets, sets, take_all}
use Rattle.model.specs.Record.{Bytes}
use Rattle.model.specs.Areas.{Areas}
use Rattle.model.specs.Calls.{ReportAnswer, Result, longest_report}
use Rattle.model.specs.Text.{line}
use Rattle.laws.proofs.Parts.{sets_first}
use Rattle.network.specs.Reading.{result_with}
use Rattle.verdicts.specs.Verdicts.{verdict_of}
use Rattle.std.specs.Prelude.{Ok, Err}
use Rattle.std.specs.declared.result.Result.{Result as Answer}
use Rattle.verdicts.specs.declared.Refusal.{Refusal}
use Rattle.reporting.specs.Answer.{report_answer_of}
use Rattle.lines.specs.Written.{PutLine}
use Rattle.test_calls.specs.declared.script.Operation.{Operation}
use Rattle.test_calls.specs.Lines.{Applies, Writes, report_line, verdict_line}
use Rattle.test_calls.specs.declared.script.Kind.{Kind}
use Rattle.test_calls.specs.declared.script.Kind.TheVariants.{Name, Network, Word, Open, Check, Report, Values, ShortRows, ShortGained, ShortLost, ShortHead, Batch, Clear}
use Rattle.test_calls.specs.Operations.{Does, Leaves, Runs, asked_by, bytes_word, opened_by, room_of, stored}

-- ---- bytes

-- a copy is written from the first byte on
pub copied : (text part : Bytes) {after : Bytes} → after ≡ take (length part) part ++ drop (length part) text → length part ≤ length text → after ≡ sets text 0 part
copied text part e h = e ∙ ap (λ (l : Bytes). l ++ drop (length part) text) (take_all (length part) part (omega arith)) ∙ sym (sets_first text part h)

-- the first bytes are no more than so many
pub length-take-small : (n : ℕ) (l : Bytes) → length (take n l) ≤ n
length-take-small n l = omega (arith, length-take n l)

-- the bytes that a report leaves
out_is : (v : Answer ℕ Refusal) (out : Bytes) → out ≡ (report_answer_of v out).out
out_is (Ok size) out = refl
out_is (Err refusal) out = refl

-- ---- operations

module _ (op : Operation) (net part : Bytes) (a : Areas) (out text : Bytes) where
  -- what prints a text
  leaves : {k : Kind} (j : Kind) {shown : Bytes} {areas after : Areas} {bytes out-after text-after : Bytes} {r : ℕ} → k ≡ j →
      (Leaves shown areas bytes after out-after text text-after r → Does j op net part a out after out-after text text-after r) →
      Leaves shown areas bytes after out-after text text-after r → Runs k op net part a after out out-after text text-after r
  leaves j e is l = rw e (record { does = is l; fits = omega (arith, l.wrote.short) })

  pub ran_name : {k : Kind} {after : Bytes} {r : ℕ} → k ≡ Name → r ≡ length part → after ≡ take (length part) part ++ drop (length part) text → length part ≤ length text →
      Runs k op net part a a out out text after r
  ran_name e n b h = leaves Name e (λ l. l)
      (record { wrote = record { bytes = copied text part b (omega arith); next = omega (arith, n); short = omega arith }; areas-are = refl; bytes-are = refl })

  nothing : Writes [] text text 0
  nothing = record { bytes = refl; next = omega arith; short = omega arith }

  pub ran_network : {k : Kind} → k ≡ Network → Runs k op net part a a out out text text 0
  ran_network e = leaves Network e (λ l. l) (record { wrote = nothing; areas-are = refl; bytes-are = refl })

  pub ran_word : {k : Kind} {after : Areas} {r : ℕ} → k ≡ Word → after ≡ stored op.area op.index op.value a → r ≡ 0 → Runs k op net part a after out out text text r
  ran_word e h n = rw n (leaves Word e (λ l. l) (record { wrote = nothing; areas-are = h; bytes-are = refl }))

  opens : {j : Kind} {X : Type 0} (v : Answer X Refusal) (m : Result) {k : Kind} {after : Areas} {shown : Bytes} {r : ℕ} → k ≡ j → result_with v after ≡ m →
      Writes (verdict_line (verdict_of v)) text shown r →
      (Leaves (verdict_line m.verdict) m.areas out after out text shown r → Does j op net part a out after out text shown r) → Runs k op net part a after out out text shown r
  opens {j = j} v m e o p is = leaves j e is (record { wrote = rw (← o) p; areas-are = rw (← o); bytes-are = refl })

  pub ran_opened : {X : Type 0} (v : Answer X Refusal) {after : Areas} {shown : Bytes} {r : ℕ} → (op.kind ≡ Open) ⊎ (op.kind ≡ ShortRows) ⊎ (op.kind ≡ ShortHead) →
      result_with v after ≡ opened_by op.kind net a →
      Writes (verdict_line (verdict_of v)) text shown r → Runs op.kind op net part a after out out text shown r
  ran_opened v {after} {shown} {r} t o p = go t
    where
      by : (k : Kind) → op.kind ≡ k → result_with v after ≡ opened_by k net a
      by k e = o ∙ ap (λ (i : Kind). opened_by i net a) e

      go : (op.kind ≡ Open) ⊎ (op.kind ≡ ShortRows) ⊎ (op.kind ≡ ShortHead) → Runs op.kind op net part a after out out text shown r
      go (inl e) = opens {j = Open} v (opened_by Open net a) e (by Open e) p (λ l. l)
      go (inr (inl e)) = opens {j = ShortRows} v (opened_by ShortRows net a) e (by ShortRows e) p (λ l. l)
      go (inr (inr e)) = opens {j = ShortHead} v (opened_by ShortHead net a) e (by ShortHead e) p (λ l. l)

  asks : {j : Kind} (v : Answer ℕ Refusal) (m : ReportAnswer) {k : Kind} {after shown : Bytes} {r : ℕ} → k ≡ j → report_answer_of v after ≡ m →
      Writes (report_line (report_answer_of v after)) text shown r →
      (Leaves (report_line m) a m.out a after text shown r → Does j op net part a out a after text shown r) → Runs k op net part a a out after text shown r
  asks {j = j} v m {after = after} e o p is = leaves j e is (record { wrote = rw (← o) p; areas-are = refl; bytes-are = rw (← o) (out_is v after) })

  pub ran_asked : (v : Answer ℕ Refusal) {after shown : Bytes} {r : ℕ} → (op.kind ≡ Check) ⊎ (op.kind ≡ Report) ⊎ (op.kind ≡ ShortGained) ⊎ (op.kind ≡ ShortLost) →
      report_answer_of v after ≡ asked_by op.kind op net a out → Writes (report_line (report_answer_of v after)) text shown r → Runs op.kind op net part a a out after text shown r
  ran_asked v {after} {shown} {r} t o p = go t
    where
      by : (k : Kind) → op.kind ≡ k → report_answer_of v after ≡ asked_by k op net a out
      by k e = o ∙ ap (λ (i : Kind). asked_by i op net a out) e

      go : (op.kind ≡ Check) ⊎ (op.kind ≡ Report) ⊎ (op.kind ≡ ShortGained) ⊎ (op.kind ≡ ShortLost) → Runs op.kind op net part a a out after text shown r
      go (inl e) = asks {j = Check} v (asked_by Check op net a out) e (by Check e) p (λ l. l)
      go (inr (inl e)) = asks {j = Report} v (asked_by Report op net a out) e (by Report e) p (λ l. l)
      go (inr (inr (inl e))) = asks {j = ShortGained} v (asked_by ShortGained op net a out) e (by ShortGained e) p (λ l. l)
      go (inr (inr (inr e))) = asks {j = ShortLost} v (asked_by ShortLost op net a out) e (by ShortLost e) p (λ l. l)

  pub ran_values : {k : Kind} → length text ≡ 65536 → (n : ℕ) {shown : Bytes} {r : ℕ} → k ≡ Values → n ≡ room_of op.value → n ≤ longest_report →
      PutLine (line bytes_word (take n out ++ [])) bytes_word (length (take n out) + 0) 0 text shown r → Runs k op net part a a out out text shown r
  ran_values room n {shown = shown} {r = r} e s h p =
      let whole : Writes (line bytes_word (take n out ++ [])) text shown r = record { bytes = p.bytes; next = p.next; short = omega (arith, p.short, length-take-small n out) } in
      leaves Values e (λ l. l) (record { wrote = rw (← s, ← append-nil (take n out)) whole; areas-are = refl; bytes-are = refl })

  pub ran_batch : {k : Kind} {after : Areas} {shown : Bytes} {r : ℕ} → k ≡ Batch → Applies net part a after text shown r → Runs k op net part a after out out text shown r
  ran_batch e o = rw e (record { does = record { applies = o; bytes-are = refl }; fits = omega (arith, o.wrote.short) })

  pub ran_clear : {k : Kind} {after : Bytes} {r : ℕ} → k ≡ Clear → after ≡ replicate longest_report 0 → r ≡ 0 → Runs k op net part a a out after text text r
  ran_clear e h n = rw n (leaves Clear e (λ l. l) (record { wrote = nothing; areas-are = refl; bytes-are = h }))

-- ---- the printed bytes' room

wrote_kept : {shown text after : Bytes} {r : ℕ} → Writes shown text after r → length after ≡ length text
wrote_kept {shown} {text} w = ap length w.bytes ∙ length-sets text 0 shown

module _ (op : Operation) (net part : Bytes) (a after : Areas) (out out-after text text-after : Bytes) (r : ℕ) where
  does-kept : (k : Kind) → Does k op net part a out after out-after text text-after r → length text-after ≡ length text
  does-kept Name d = wrote_kept d.wrote
  does-kept Network d = wrote_kept d.wrote
  does-kept Word d = wrote_kept d.wrote
  does-kept Open d = wrote_kept d.wrote
  does-kept Check d = wrote_kept d.wrote
  does-kept Report d = wrote_kept d.wrote
  does-kept Values d = wrote_kept d.wrote
  does-kept ShortRows d = wrote_kept d.wrote
  does-kept ShortGained d = wrote_kept d.wrote
  does-kept ShortLost d = wrote_kept d.wrote
  does-kept ShortHead d = wrote_kept d.wrote
  does-kept Batch d = wrote_kept d.applies.wrote
  does-kept Clear d = wrote_kept d.wrote

pub text-kept : {k : Kind} {op : Operation} {net part : Bytes} {a after : Areas} {out out-after text text-after : Bytes} {r : ℕ} → Runs k op net part a after out out-after text text-after r
    →
    length text-after ≡ length text
text-kept {k = k} {op = op} {net = net} {part = part} {a = a} {after = after} {out = out} {out-after = out-after} {text = text} {text-after = text-after} {r = r} w =
    does-kept op net part a after out out-after text text-after r k w.does
