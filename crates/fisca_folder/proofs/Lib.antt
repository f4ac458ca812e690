mod Looks
mod PlainTexts
mod FirstFiles
mod Laying
mod LaidOver
