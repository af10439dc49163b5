use Rattle.std.proofs.Common.{◌≡◌, ◌≤◌, ◌-◌}
use Rattle.page_store.specs.Pages.{HasPages, KeepsPages}
use Rattle.page_store.proofs.page_row.PageRow.add_pages.Given as goal

-- the pages so far are there, and nothing else changed
abbrev pub invariant-loop-done : goal.invariant-loop-done
invariant-loop-done l = record {
  bytes : l.self.bytes ≡ l.fn.self.bytes;
  room : KeepsPages l.fn.self.pages l.self.pages;
  so_far : HasPages l.self.pages l.offset l.done;
  within : l.done ≤ l.count;
}

abbrev pub decreases-loop-done : goal.decreases-loop-done
decreases-loop-done l = l.count - l.done
