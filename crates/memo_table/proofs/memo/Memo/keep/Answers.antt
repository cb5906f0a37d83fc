use Rattle.std.proofs.Common.{ℕ, sym, subst}
use Rattle.lru.specs.LruCache.{LruCache, put_entries}
use Rattle.memo_table.specs.declared.memo.Key.{Key}
use Rattle.memo_table.specs.contracts.memo.KeyPartialEq.TheImpl as key_impl
use Rattle.memo_table.specs.Results.{AreResults}
use Rattle.memo_table.proofs.Entries.{results-put}
use Rattle.memo_table.proofs.Telling.{key_tells}
use Rattle.memo_table.proofs.memo.Memo.keep.Goals as goal

pub returns-clause-results : goal.returns-clause-results
returns-clause-results g c dom operations states are is =
    let P : LruCache Key ℕ → Type 0 = λ m. AreResults dom operations states m.entries in
    let Q : LruCache Key ℕ → Type 0 = λ m. AreResults dom operations states (put_entries key_impl.ghosts.eq m c.args.key c.args.value) in
    subst P (sym c.in_ok-_replaced.ensures.entries) (subst Q (sym c.self.view_is) (results-put dom operations states key_impl.ghosts.eq key_tells c.args.self.now c.args.key c.args.value are is))
