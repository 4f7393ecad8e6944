use Rattle.sector_cache.specs.MemoryImage.{disk_of}
use Rattle.show.specs.Weaver.{weaver_records}
use Rattle.show.proofs.Showing.{shows}
use Rattle.show.proofs.replaying.show.Goals as goal
use Rattle.show.proofs.replaying.show.Goals.{in-Ok, in-Err}

pub returns : goal.returns
returns g c =
    let contents = g.W.Write.contents in
    elim c.match-replayed.branch [
      | in-Ok w ↦ rw w.result-is
          (shows w.end.result.1 c.args.text.now (contents c.args.out) (contents w.end.result.0)
          (weaver_records contents c.new-weaver.result) (weaver_records contents c.replayed.new.out)
          (disk_of c.args.image) (disk_of w.in-Ok.field-0)
          c.new-weaver.ensures w.in-Ok.ensures.run w.end.ensures)
      | in-Err w ↦ rw w.result-is tt
    ]
