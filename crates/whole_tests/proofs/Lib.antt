pub mod SpriteRows
