use Rattle.std.proofs.Common.{◌≡◌, ℕ, sym, subst, rules}
use Rattle.std.specs.Map.{lookup}
use Rattle.lru.specs.LruCache.{LruCache, lru_cache, promoted}
use Rattle.memo_table.specs.declared.memo.Key.{Key}
use Rattle.memo_table.specs.contracts.memo.KeyPartialEq.TheImpl as key_impl
use Rattle.memo_table.specs.Results.{AreResults}
use Rattle.memo_table.proofs.Entries.{result-found, results-promoted}
use Rattle.memo_table.proofs.Telling.{key_tells}
use Rattle.memo_table.proofs.memo.Memo.get.Goals as goal

found-is : (g : _) (c : goal.After-self-2-1 g) → c.copied.result ≡ lookup (key_impl.ghosts.eq c.args.key.now) c.args.self.now.entries
found-is g c = search rules

recent-is : (g : _) (c : goal.After-self-2-1 g) → c.get.follows.lender-at-none ≡ lru_cache (promoted (key_impl.ghosts.eq c.args.key.now) c.args.self.now.entries) c.args.self.now.cap
recent-is g c = search rules

pub returns-clause-found : goal.returns-clause-found
returns-clause-found g c dom operations states are = result-found dom operations states key_impl.ghosts.eq key_tells c.args.self.now.entries are c.args.key.now c.copied.result (found-is g c)

pub returns-clause-results : goal.returns-clause-results
returns-clause-results g c dom operations states are =
    let P : LruCache Key ℕ → Type 0 = λ m. AreResults dom operations states m.entries in
    subst P (sym (recent-is g c)) (results-promoted dom operations states key_impl.ghosts.eq key_tells c.args.self.now.entries c.args.key.now are)
