-- Scripts of calls.
use Rattle.std.specs.Prelude.{◌≡◌, cond, List, [], ◌∷◌, ℕ, ◌+◌, ◌≤◌, ◌<◌, leb, get_or, length}
use Rattle.model.specs.Record.{Bytes, u16, u32}
use Rattle.test_calls.specs.declared.script.Area.{Area}
use Rattle.test_calls.specs.declared.script.Area.TheVariants.{Rows, Gained, Lost, Head}
use Rattle.test_calls.specs.declared.script.Kind.{Kind}
use Rattle.test_calls.specs.declared.script.Kind.TheVariants.{Name, Network, Word, Open, Check, Report, Values}
use Rattle.test_calls.specs.declared.script.Kind.TheVariants.{ShortRows, ShortGained, ShortLost, ShortHead}
use Rattle.test_calls.specs.declared.script.Kind.TheVariants.{Batch, Clear}
use Rattle.test_calls.specs.declared.script.Operation.{Operation}

-- the kinds by number
abbrev pub kinds : List Kind
kinds =
    Clear ∷ Name ∷ Network ∷ Word ∷ Open ∷ Check ∷ Report ∷ Values ∷ ShortRows ∷ ShortGained ∷ ShortLost ∷ ShortHead
    ∷ Batch ∷ []

-- an operation's kind, by its number; any other clears
abbrev pub kind_of : ℕ → Kind
kind_of number = get_or kinds number Clear

-- an area, by its number; any other is the head
abbrev pub area_of : ℕ → Area
area_of number = get_or (Rows ∷ Gained ∷ Lost ∷ []) number Head

-- the operation whose bytes stand at an offset
abbrev pub operation_in : Bytes → ℕ → Operation
operation_in bs at =
    record {
      kind = kind_of (get_or bs at 0);
      area = area_of (get_or bs (at + 1) 0);
      index = u16 bs (at + 2);
      value = u32 bs (at + 4);
      from = at + 10;
      next = at + 10 + u16 bs (at + 8);
    }

-- none: one that clears, without a text, at the script's end
abbrev pub no_operation : ℕ → Operation
no_operation end = record { kind = Clear; area = Rows; index = 0; value = 0; from = end; next = end }

-- the operation at an offset, none where the script ends before it does
abbrev pub operation_at : Bytes → ℕ → Operation
operation_at bs at = cond (leb (operation_in bs at).next (length bs)) (operation_in bs at) (no_operation (length bs))

-- it is read: it ends after its offset, inside the script, and its text inside it
pub record ReadsOperation (bs : Bytes) (at : ℕ) (op : Operation) : Type 0 where
  pub is : op ≡ operation_at bs at
  pub after : at < op.next
  pub text : op.from ≤ op.next
  pub whole : op.next ≤ length bs
