use Rattle.time_layout.specs.declared.directives.Sketch.{Sketch}
use Rattle.time_layout.specs.LayoutText.{Draft}

abbrev pub draft_of : Sketch → Draft
draft_of sketch = record { parts = sketch.parts.items; given = sketch.given; percent = sketch.percent }
