pub mod ArtLemmas
pub mod LoadLemmas
pub mod RenderLemmas
pub mod RunLemmas
pub mod SceneOfLemmas
pub mod SpansLemmas
pub mod StepLemmas
pub mod TrimmedLemmas
