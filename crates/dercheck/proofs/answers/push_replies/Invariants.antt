use Rattle.std.proofs.Common.{◌≡◌, ◌++◌, ◌&&◌, length}
use Rattle.std.specs.Io.{StartsWith}
use Rattle.std.specs.List.{list_all}
use Rattle.dercheck.specs.Lines.{lines_of}
use Rattle.dercheck.specs.Replies.{answers, is_ok_line}
use Rattle.dercheck.proofs.answers.push_replies.Given as goal

abbrev pub invariant-loop-line : goal.invariant-loop-line
invariant-loop-line l = record {
  octets : l.out.items ++ answers l.rest ≡ l.initial.out.items ++ answers l.input;
  all_ok : (l.all_ok && list_all is_ok_line (lines_of l.rest)) ≡ list_all is_ok_line (lines_of l.input);
  kept : StartsWith l.out.items l.initial.out.items;
}

abbrev pub decreases-loop-line : goal.decreases-loop-line
decreases-loop-line l = length l.rest
