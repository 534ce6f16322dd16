use Rattle.std.proofs.Common.{take, ◌++◌}
use Rattle.std.specs.Io.KnownBytes.{Appends}
use Rattle.network.specs.Values.{graph}
use Rattle.console.specs.Text.{cut_head, lines_out}
use Rattle.console.proofs.print.write_cut.Given as goal

abbrev pub invariant-loop-k : goal.invariant-loop-k
invariant-loop-k g l =
    Appends (g.W.Write.contents l.fn.out) (g.W.Write.contents l.out)
    (cut_head l.side l.fn.listener (graph l.network).links ++ lines_out l.side 0 (take l.k (graph l.network).links))
