pub mod RowsDrawn
