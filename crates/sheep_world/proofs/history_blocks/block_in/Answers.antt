use Rattle.std.proofs.Common.{◌≡◌, ℕ, ◌+◌, ◌-◌, ◌*◌, IfOk, take, drop, subst, arith}
use Rattle.sheep_world.proofs.history_blocks.block_in.Goals as goal

pub returns : goal.returns
returns c =
    let long : c.args.place * 512 + 512 - c.args.place * 512 ≡ 512 = omega arith in
    subst (λ (n : ℕ). IfOk c.from_slice.result (λ block. block ≡ take n (drop (c.args.place * 512) c.args.bytes.now))) long
    c.from_slice.ensures
